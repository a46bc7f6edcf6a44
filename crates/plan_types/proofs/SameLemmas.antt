-- Two lists of types, compared place by place.
use Rattle.std.proofs.Common.{◌≡◌, ℕ, ◌+◌, ◌<◌, ◌≤◌, zero, suc, List, [], ◌∷◌, length, drop, get_or, true, false, refl, ap, sym, ◌∙◌, arith, add-one}
use Rattle.std.specs.Prelude.{◌&&◌, ◌≢◌}
use Rattle.std.specs.Cmp.Lexicographic.{pointwise, unequal}
use Rattle.std.proofs.lemmas.List.{drop_all}
use Rattle.sql_values.specs.declared.types.SqlType.{SqlType}
use Rattle.sql_values.specs.declared.types.SqlType.TheVariants.{Boolean}
use Rattle.sql_functions.specs.CallTypes.{same_type}

step : (xs ys : List SqlType) (i : ℕ) → i < length xs → i < length ys
    → pointwise same_type (drop i xs) (drop i ys) ≡ (same_type (get_or xs i Boolean) (get_or ys i Boolean) && pointwise same_type (drop (suc i) xs) (drop (suc i) ys))
step [] ys i h k = absurd (omega arith)
step (x ∷ xs) [] i h k = absurd (omega arith)
step (x ∷ xs) (y ∷ ys) zero h k = refl
step (x ∷ xs) (y ∷ ys) (suc i) h k = step xs ys i (omega (arith, h)) (omega (arith, k))

-- the types at a place differ
pub same-stops : (xs ys : List SqlType) (i : ℕ) → i < length xs → i < length ys → same_type (get_or xs i Boolean) (get_or ys i Boolean) ≡ false
    → pointwise same_type (drop i xs) (drop i ys) ≡ false
same-stops xs ys i h k is = step xs ys i h k ∙ ap (λ b. b && pointwise same_type (drop (suc i) xs) (drop (suc i) ys)) is

-- the types at a place are the same
pub same-more : (xs ys : List SqlType) (i : ℕ) → i < length xs → i < length ys → same_type (get_or xs i Boolean) (get_or ys i Boolean) ≡ true
    → pointwise same_type (drop i xs) (drop i ys) ≡ pointwise same_type (drop (i + 1) xs) (drop (i + 1) ys)
same-more xs ys i h k is =
    step xs ys i h k ∙ ap (λ b. b && pointwise same_type (drop (suc i) xs) (drop (suc i) ys)) is
    ∙ ap (λ n. pointwise same_type (drop n xs) (drop n ys)) (sym (add-one i))

pub same-ends : (xs ys : List SqlType) (i : ℕ) → length xs ≤ i → length ys ≤ i → pointwise same_type (drop i xs) (drop i ys) ≡ true
same-ends xs ys i h k = (λ j. pointwise same_type (drop_all i xs h j) (drop_all i ys k j))

pub unequal_lists : (xs ys : List SqlType) → length xs ≢ length ys → pointwise same_type xs ys ≡ false
unequal_lists xs ys h = unequal same_type xs ys h

pub ruleset same_lists = (same-stops, same-more, same-ends, unequal_lists)
