-- Numbers of bells that follow one another.
use Rattle.std.proofs.Common.{◌≡◌, ℕ, ◌+◌, suc, zero, List, [], ◌∷◌, ◌++◌, flat_map, length, map, replicate, refl, ap, sym, ◌∙◌, subst, arith}
use Rattle.std.specs.List.{range_with_len}
use Rattle.std.proofs.lemmas.List.{length-append, map-append}
use Rattle.std.proofs.lemmas.Grind.{flat_map-append}
use Rattle.plan_wiring.specs.Bells.{AreNumbers}

range-append : (a m n : ℕ) → range_with_len a (m + n) ≡ range_with_len a m ++ range_with_len (a + m) n
range-append a zero n =
    let none : 0 + n ≡ n = omega arith in
    let same : a ≡ a + 0 = omega arith in
    ap (range_with_len a) none ∙ ap (λ (x : ℕ). range_with_len x n) same
range-append a (suc m) n =
    let one : suc m + n ≡ suc (m + n) = omega arith in
    let same : (a + 1) + m ≡ a + suc m = omega arith in
    ap (range_with_len a) one ∙ ap (λ (xs : List ℕ). a ∷ xs) (range-append (a + 1) m n ∙ ap (λ (x : ℕ). range_with_len (a + 1) m ++ range_with_len x n) same)

pub no_numbers : (first : ℕ) → AreNumbers first [] first
no_numbers first = record { are = refl; follows = omega arith }

pub numbers_behind : (first next last : ℕ) (xs ys : List ℕ) → AreNumbers first xs next → AreNumbers next ys last → AreNumbers first (xs ++ ys) last
numbers_behind first next last xs ys a b = record {
  are =
      ap (λ (zs : List ℕ). zs ++ ys) a.are ∙ ap (λ (zs : List ℕ). range_with_len first (length xs) ++ zs) (b.are ∙ ap (λ (x : ℕ). range_with_len x (length ys)) a.follows)
      ∙ sym (range-append first (length xs) (length ys)) ∙ ap (range_with_len first) (sym (length-append xs ys));
  follows = omega (arith, a.follows, b.follows, length-append xs ys);
}

pub one_number : (first next : ℕ) → next ≡ first + 1 → AreNumbers first (first ∷ []) next
one_number first next is = record { are = refl; follows = is }

pub two_numbers : (first second next : ℕ) → second ≡ first + 1 → next ≡ second + 1 → AreNumbers first (first ∷ second ∷ []) next
two_numbers first second next is behind = record { are = ap (λ (x : ℕ). first ∷ x ∷ []) is; follows = omega (arith, is, behind) }

pub from_first : (numbers : List ℕ) (next : ℕ) → AreNumbers 0 numbers next → numbers ≡ range_with_len 0 next
from_first numbers next a = let same : length numbers ≡ next = omega (arith, a.follows) in a.are ∙ ap (range_with_len 0) same

-- one more of some things that ring
pub ring_more : {A : Type 0} (rings : A → List ℕ) (first next last : ℕ) (xs pushed : List A) (x : A) → pushed ≡ xs ++ x ∷ [] → AreNumbers first (flat_map rings xs) next → AreNumbers next (rings x) last
    → AreNumbers first (flat_map rings pushed) last
ring_more rings first next last xs pushed x push before one =
    subst (λ (ns : List ℕ). AreNumbers first ns last) (sym (ap (flat_map rings) push ∙ flat_map-append rings xs (x ∷ []) ∙ ap (λ (ns : List ℕ). flat_map rings xs ++ ns) (alone (rings x))))
    (numbers_behind first next last (flat_map rings xs) (rings x) before one)
  where
    alone : (ns : List ℕ) → ns ++ [] ≡ ns
    alone [] = refl
    alone (n ∷ ns) = ap (λ (ms : List ℕ). n ∷ ms) (alone ns)

-- one more of some things with a bell
pub bell_more : {A : Type 0} (bell : A → ℕ) (first next last : ℕ) (xs pushed : List A) (x : A) → pushed ≡ xs ++ x ∷ [] → AreNumbers first (map bell xs) next → bell x ≡ next → last ≡ next + 1
    → AreNumbers first (map bell pushed) last
bell_more bell first next last xs pushed x push before is behind =
    subst (λ (ns : List ℕ). AreNumbers first ns last) (sym (ap (map bell) push ∙ map-append bell xs (x ∷ []) ∙ ap (λ (n : ℕ). map bell xs ++ n ∷ []) is))
    (numbers_behind first next last (map bell xs) (next ∷ []) before (one_number next last behind))

pub count_more : {A : Type 0} (n : ℕ) (xs pushed : List A) (x : A) → pushed ≡ xs ++ x ∷ [] → length xs ≡ n → length pushed ≡ n + 1
count_more n xs pushed x push before = omega (arith, ap length push, length-append xs (x ∷ []), before)

replicate-snoc : {B : Type 0} (n : ℕ) (b : B) → replicate n b ++ b ∷ [] ≡ replicate (suc n) b
replicate-snoc zero b = refl
replicate-snoc {B} (suc n) b = ap (λ (bs : List B). b ∷ bs) (replicate-snoc n b)

-- one more of some things that are alike
pub one_more : {A B : Type 0} (form : A → B) (b : B) (n : ℕ) (xs pushed : List A) (x : A) → pushed ≡ xs ++ x ∷ [] → map form xs ≡ replicate n b → form x ≡ b → map form pushed ≡ replicate (n + 1) b
one_more {A} {B} form b n xs pushed x push before one =
    let next : suc n ≡ n + 1 = omega arith in
    ap (map form) push ∙ map-append form xs (x ∷ []) ∙ (λ i. before i ++ one i ∷ []) ∙ replicate-snoc n b ∙ ap (λ (k : ℕ). replicate k b) next
