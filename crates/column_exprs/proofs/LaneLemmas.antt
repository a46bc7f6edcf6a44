-- Comparisons by lanes.
use Rattle.std.proofs.Common.{◌≡◌, ℕ, zero, suc, Bool, true, false, cond, not, eqb, List, [], ◌∷◌, length, map, replicate, refl, ap, sym, ◌∙◌, arith, FitsSigned}
use Rattle.std.specs.Prelude.{ℤ}
use Rattle.std.proofs.Common.{w64}
use lib.Signed.{lt_z, le_z}
use mir.Val.{of_z, to_z}
use lib.Lanes.{zip2, Each1, sel_l, top}
use Rattle.std.specs.Ordering.{int_cmp, is_eq, is_ne, is_lt, is_gt, is_le, is_ge}
use Rattle.std.proofs.lemmas.Int.{ints, to_z-of_z}
use Rattle.std.proofs.lemmas.List.{length-map}
use Rattle.std.specs.declared.cmp.Ordering.{Ordering}
use Rattle.std.specs.declared.cmp.Ordering.TheVariants as ordering
use Rattle.column_exprs.specs.declared.compare.Compare.{Compare}
use Rattle.column_exprs.specs.declared.compare.Compare.TheVariants as compare
use Rattle.column_exprs.specs.Comparisons.{holds}
use Rattle.column_exprs.specs.Lanes.{lane, mark, truths}

-- what a test of two lanes answers, of the numbers that they hold
read : (t : ℤ → ℤ → Bool) (x y : ℤ) → FitsSigned w64 x → FitsSigned w64 y → t (to_z w64 (of_z w64 x)) (to_z w64 (of_z w64 y)) ≡ t x y
read t x y p q = λ i. t (to_z-of_z w64 x p i) (to_z-of_z w64 y q i)

equal_read : (x y : ℤ) → FitsSigned w64 x → FitsSigned w64 y → eqb (of_z w64 x) (of_z w64 y) ≡ is_eq (int_cmp x y)
equal_read x y p q = grind (arith, ints)

pub less_is : (x y : ℤ) → lt_z x y ≡ is_lt (int_cmp x y)
less_is x y = grind (arith, ints)

pub less_equal_is : (x y : ℤ) → le_z x y ≡ is_le (int_cmp x y)
less_equal_is x y = grind (arith, ints)

greater_is : (x y : ℤ) → is_lt (int_cmp y x) ≡ is_gt (int_cmp x y)
greater_is x y = grind (arith, ints)

greater_equal_is : (x y : ℤ) → is_le (int_cmp y x) ≡ is_ge (int_cmp x y)
greater_equal_is x y = grind (arith, ints)

-- the other way round
turned : (f g : ℤ → ℤ → Bool) (xs ys : List ℤ) → ((x y : ℤ) → f y x ≡ g x y) → zip2 f ys xs ≡ zip2 g xs ys
turned f g [] [] each = refl
turned f g [] (y ∷ ys) each = refl
turned f g (x ∷ xs) [] each = refl
turned f g (x ∷ xs) (y ∷ ys) each = λ i. each x y i ∷ turned f g xs ys each i

pub greater_turned : (xs ys : List ℤ) → truths compare.Less ys xs ≡ truths compare.Greater xs ys
greater_turned xs ys = turned (λ x y. is_lt (int_cmp x y)) (λ x y. is_gt (int_cmp x y)) xs ys greater_is

pub greater_equal_turned : (xs ys : List ℤ) → truths compare.LessEqual ys xs ≡ truths compare.GreaterEqual xs ys
greater_equal_turned xs ys = turned (λ x y. is_le (int_cmp x y)) (λ x y. is_ge (int_cmp x y)) xs ys greater_equal_is

-- lanes that are chosen by marks
pub chosen_all : (P : ℕ → Type 0) → P 1 → P 0 → (ms : List Bool) (n : ℕ) → Each1 P (sel_l ms (replicate n 1) (replicate n 0))
chosen_all P p q [] n = tt
chosen_all P p q (m ∷ ms) zero = tt
chosen_all P p q (true ∷ ms) (suc n) = (p, chosen_all P p q ms n)
chosen_all P p q (false ∷ ms) (suc n) = (q, chosen_all P p q ms n)

pub chosen_marks : (f : ℕ → ℕ) → f 1 ≡ 1 → f 0 ≡ 0 → (ts : List Bool) (n : ℕ) → length ts ≡ n
    → map f (sel_l (map (top 63) (map (of_z w64) (map lane ts))) (replicate n 1) (replicate n 0)) ≡ map mark ts
chosen_marks f p q [] n e = refl
chosen_marks f p q (t ∷ ts) zero e = cc
chosen_marks f p q (true ∷ ts) (suc n) e = (λ i. p i ∷ chosen_marks f p q ts n (omega (arith, e)) i)
chosen_marks f p q (false ∷ ts) (suc n) e = (λ i. q i ∷ chosen_marks f p q ts n (omega (arith, e)) i)

pub chosen_held : (f : ℕ → ℕ) (ts : List Bool) (hs : List ℤ) (n : ℕ) → f 1 ≡ 1 → f 0 ≡ 0 → hs ≡ map lane ts → length hs ≡ n
    → map f (sel_l (map (top 63) (map (of_z w64) hs)) (replicate n 1) (replicate n 0)) ≡ map mark ts
chosen_held f ts hs n p q e l =
    ap (λ hs. map f (sel_l (map (top 63) (map (of_z w64) hs)) (replicate n 1) (replicate n 0))) e
    ∙ chosen_marks f p q ts n (sym (length-map ts lane) ∙ sym (ap length e) ∙ l)

-- lanes that a test of two compares
module _ (t : ℕ → ℕ → Bool) where
  abbrev compared : ℕ → ℕ → ℕ
  compared x y = cond (t x y) 18446744073709551615 0

  held_all : (f : ℤ → ℤ → Bool) (xs ys : List ℤ) → ((x y : ℤ) → FitsSigned w64 x → FitsSigned w64 y → t (of_z w64 x) (of_z w64 y) ≡ f x y)
      → Each1 (FitsSigned w64) xs → Each1 (FitsSigned w64) ys → map (to_z w64) (zip2 compared (map (of_z w64) xs) (map (of_z w64) ys)) ≡ map lane (zip2 f xs ys)
  held_all f [] ys each p q = refl
  held_all f (x ∷ xs) [] each p q = refl
  held_all f (x ∷ xs) (y ∷ ys) each p q =
      (λ i. (ap (λ b. to_z w64 (cond b 18446744073709551615 0)) (each x y p.0 q.0) ∙ whole (f x y)) i ∷ held_all f xs ys each p.1 q.1 i)
    where
      whole : (b : Bool) → to_z w64 (cond b 18446744073709551615 0) ≡ lane b
      whole true = refl
      whole false = refl

module _ (xs ys : List ℤ) (p : Each1 (FitsSigned w64) xs) (q : Each1 (FitsSigned w64) ys) where
  pub held_equal : map (to_z w64) (zip2 (λ a b. cond (eqb a b) 18446744073709551615 0) (map (of_z w64) xs) (map (of_z w64) ys)) ≡ map lane (truths compare.Equal xs ys)
  held_equal = held_all eqb (λ x y. is_eq (int_cmp x y)) xs ys equal_read p q

  pub held_unequal : map (to_z w64) (zip2 (λ a b. cond (not (eqb a b)) 18446744073709551615 0) (map (of_z w64) xs) (map (of_z w64) ys)) ≡ map lane (truths compare.Unequal xs ys)
  held_unequal = held_all (λ a b. not (eqb a b)) (λ x y. is_ne (int_cmp x y)) xs ys (λ x y f g. ap not (equal_read x y f g) ∙ unequal (int_cmp x y)) p q
    where
      unequal : (o : Ordering) → not (is_eq o) ≡ is_ne o
      unequal ordering.Less = refl
      unequal ordering.Equal = refl
      unequal ordering.Greater = refl

  module _ (t : ℤ → ℤ → Bool) (op : Compare) (is : (x y : ℤ) → t x y ≡ holds op (int_cmp x y)) where
    pub held_ordered : map (to_z w64) (zip2 (λ a b. cond (t (to_z w64 a) (to_z w64 b)) 18446744073709551615 0) (map (of_z w64) xs) (map (of_z w64) ys)) ≡ map lane (truths op xs ys)
    held_ordered = held_all (λ a b. t (to_z w64 a) (to_z w64 b)) (λ x y. holds op (int_cmp x y)) xs ys (λ x y f g. read t x y f g ∙ is x y) p q
