-- Stages at their places: what holds at each of them.
use Rattle.std.proofs.Common.{◌≡◌, ◌≤◌, ℕ, zero, suc, ◌<◌, List, [], ◌∷◌, length, get_or, set, map, refl, sym, ap, subst, ◌∙◌, arith}
use Rattle.operator_core.specs.declared.operator.Operator.{Ghosts}
use Rattle.operator_core.specs.Calls.{IsKept, Stays, Looked}
use Rattle.operator_core.specs.Stages.{AllCameFrom}
use Rattle.operator_core.proofs.MadeLemmas.{CameFrom-same}
use Rattle.stage_moves.specs.Places.{AtEachPlace, AllStay, IsLater, AllLater}

module _ {A : Type 0} (R : A → A → Type 0) where
  pub each-same : ((x : A) → R x x) → (xs : List A) → AtEachPlace R xs xs
  each-same same [] = tt
  each-same same (x ∷ xs) = (same x, each-same same xs)

  pub each-then : ((x y z : A) → R x y → R y z → R x z) → (xs ys zs : List A) → AtEachPlace R xs ys → AtEachPlace R ys zs → AtEachPlace R xs zs
  each-then on [] [] zs p q = q
  each-then on [] (y ∷ ys) zs p q = absurd p
  each-then on (x ∷ xs) [] zs p q = absurd p
  each-then on (x ∷ xs) (y ∷ ys) [] p q = absurd q
  each-then on (x ∷ xs) (y ∷ ys) (z ∷ zs) p q = (on x y z p.0 q.0, each-then on xs ys zs p.1 q.1)

  -- one changed
  pub each-set : ((x : A) → R x x) → (xs : List A) (i : ℕ) (x y : A) → i < length xs → x ≡ get_or xs i x → R x y → AtEachPlace R xs (set xs i y)
  each-set same [] i x y h e r = absurd (omega arith)
  each-set same (k ∷ xs) zero x y h e r = (subst (λ (k : A). R k y) e r, each-same same xs)
  each-set same (k ∷ xs) (suc i) x y h e r = (same k, each-set same xs i x y (omega arith) e r)

  pub each-at : (xs ys : List A) (i : ℕ) (x y : A) → AtEachPlace R xs ys → i < length ys → x ≡ get_or xs i x → y ≡ get_or ys i y → R x y
  each-at [] [] i x y all h ex ey = absurd (omega arith)
  each-at [] (b ∷ ys) i x y all h ex ey = absurd all
  each-at (a ∷ xs) [] i x y all h ex ey = absurd all
  each-at (a ∷ xs) (b ∷ ys) zero x y all h ex ey = subst (λ (x : A). R x y) (sym ex) (subst (λ (y : A). R a y) (sym ey) all.0)
  each-at (a ∷ xs) (b ∷ ys) (suc i) x y all h ex ey = each-at xs ys i x y all.1 (omega arith) ex ey

  pub each-length : (xs ys : List A) → AtEachPlace R xs ys → length xs ≡ length ys
  each-length [] [] all = refl
  each-length [] (y ∷ ys) all = absurd all
  each-length (x ∷ xs) [] all = absurd all
  each-length (x ∷ xs) (y ∷ ys) all = ap suc (each-length xs ys all.1)

pub each-weaker : {A : Type 0} (R Q : A → A → Type 0) → ((x y : A) → R x y → Q x y) → (xs ys : List A) → AtEachPlace R xs ys → AtEachPlace Q xs ys
each-weaker R Q so [] [] all = tt
each-weaker R Q so [] (y ∷ ys) all = absurd all
each-weaker R Q so (x ∷ xs) [] all = absurd all
each-weaker R Q so (x ∷ xs) (y ∷ ys) all = (so x y all.0, each-weaker R Q so xs ys all.1)

-- an item of a list, whatever stands past its end
pub item-is : {A : Type 0} (xs : List A) (i : ℕ) (d : A) → i < length xs → get_or xs i d ≡ get_or xs i (get_or xs i d)
item-is [] i d h = absurd (omega arith)
item-is (x ∷ xs) zero d h = refl
item-is (x ∷ xs) (suc i) d h = item-is xs i d (omega arith)

module _ {S : Type 0} (g : Ghosts S) where
  Kept-same : (s : S) → IsKept g s s
  Kept-same s = record { over = λ e. e; full = λ e. e; size = refl; late = refl; waits = refl }

  Kept-then : (s t u : S) → IsKept g s t → IsKept g t u → IsKept g s u
  Kept-then s t u p q = record {
    over = λ e. q.over (p.over e);
    full = λ e. q.full (p.full e);
    size = q.size ∙ p.size;
    late = q.late ∙ p.late;
    waits = q.waits ∙ p.waits;
  }

  Stays-same : (s : S) → Stays g s s
  Stays-same s = record { as_made = refl; knows = refl; looks = refl; looked_at = refl; bell = refl; kept = Kept-same s }

  Stays-then : (s t u : S) → Stays g s t → Stays g t u → Stays g s u
  Stays-then s t u p q = record {
    as_made = q.as_made ∙ p.as_made;
    knows = q.knows ∙ p.knows;
    looks = q.looks ∙ p.looks;
    looked_at = q.looked_at ∙ p.looked_at;
    bell = q.bell ∙ p.bell;
    kept = Kept-then s t u p.kept q.kept;
  }

  pub AllStay-same : (ss : List S) → AllStay g ss ss
  AllStay-same ss = each-same (λ s t. Stays g s t) Stays-same ss

  pub AllStay-then : (ss ts us : List S) → AllStay g ss ts → AllStay g ts us → AllStay g ss us
  AllStay-then ss ts us p q = each-then (λ s t. Stays g s t) Stays-then ss ts us p q

  pub AllStay-set : (ss : List S) (i : ℕ) (s t : S) → i < length ss → s ≡ get_or ss i s → Stays g s t → AllStay g ss (set ss i t)
  AllStay-set ss i s t h e stays = each-set (λ s t. Stays g s t) Stays-same ss i s t h e stays

  pub AllStay-made : (old new : List S) → AllStay g old new → map g.as_made new ≡ map g.as_made old
  AllStay-made [] [] all = refl
  AllStay-made [] (t ∷ ts) all = absurd all
  AllStay-made (s ∷ ss) [] all = absurd all
  AllStay-made (s ∷ ss) (t ∷ ts) all = let a = all.0.as_made in let b = AllStay-made ss ts all.1 in cc

  Later-same : (s : S) → IsLater g s s
  Later-same s = record { knows = λ e. e; looks = omega arith; kept = Kept-same s }

  Later-then : (s t u : S) → IsLater g s t → IsLater g t u → IsLater g s u
  Later-then s t u p q = record {
    knows = λ e. q.knows (p.knows e);
    looks = omega (arith, p.looks, q.looks);
    kept = Kept-then s t u p.kept q.kept;
  }

  pub AllLater-same : (ss : List S) → AllLater g ss ss
  AllLater-same ss = each-same (λ s t. IsLater g s t) Later-same ss

  pub AllLater-then : (ss ts us : List S) → AllLater g ss ts → AllLater g ts us → AllLater g ss us
  AllLater-then ss ts us p q = each-then (λ s t. IsLater g s t) Later-then ss ts us p q

  pub AllLater-looked : (ss : List S) (i : ℕ) (s t : S) → i < length ss → s ≡ get_or ss i s → Looked g s t → g.empty_looks s ≤ g.empty_looks t → AllLater g ss (set ss i t)
  AllLater-looked ss i s t h e looked looks =
      each-set (λ s t. IsLater g s t) Later-same ss i s t h e (record { knows = looked.known; looks = looks; kept = looked.kept })

  pub AllLater-stay : (old new : List S) → AllStay g old new → AllLater g old new
  AllLater-stay old new all = each-weaker (λ s t. Stays g s t) (λ s t. IsLater g s t)
      (λ s t stays. record { knows = λ e. stays.knows ∙ e; looks = omega (arith, stays.looks); kept = stays.kept }) old new all

  pub AllCameFrom-stay : (ms old new : List S) → AllStay g old new → AllCameFrom g ms old → AllCameFrom g ms new
  AllCameFrom-stay ms [] [] all came = came
  AllCameFrom-stay ms [] (t ∷ ts) all came = absurd all
  AllCameFrom-stay ms (s ∷ ss) [] all came = absurd all
  AllCameFrom-stay [] (s ∷ ss) (t ∷ ts) all came = absurd came
  AllCameFrom-stay (m ∷ ms) (s ∷ ss) (t ∷ ts) all came = (CameFrom-same g m s t all.0.as_made came.0, AllCameFrom-stay ms ss ts all.1 came.1)
