-- A row of the matcher says of each end of the text whether the pattern matches it.
use Rattle.std.proofs.Common.{◌≡◌, ℕ, ◌+◌, ◌<◌, List, [], ◌∷◌, length, take, get_or, reverse, replicate, Bool, true, false, refl, ap, ◌∙◌, arith}
use mathlib.Core.List.{reverse_aux}
use Rattle.std.specs.Prelude.{◌||◌, ◌==◌, if◌then◌else◌}
use Rattle.std.proofs.lemmas.List.{reverse-append, reverse-reverse, take_more}
use Rattle.sql_functions.specs.Like.{some_end, after_first, is_like}
use Rattle.sql_functions.specs.LikeRows.{ends_from, set_from, moved, next_row}

or_turned : (a b : Bool) → (a || b) ≡ (b || a)
or_turned true true = refl
or_turned true false = refl
or_turned false true = refl
or_turned false false = refl

set_ends : (seen : Bool) (end : List ℕ) (passes : List ℕ → Bool) (rest : List ℕ) → (seen || passes end) ≡ some_end passes end → set_from seen (ends_from end passes rest) ≡ ends_from end (some_end passes) rest
set_ends seen end passes [] h = ap (λ b. b ∷ []) h
set_ends seen end passes (c ∷ rest) h =
    ap (λ b. b ∷ set_from b (ends_from (c ∷ end) passes rest)) h
    ∙ ap (λ bs. some_end passes end ∷ bs) (set_ends (some_end passes end) (c ∷ end) passes rest (or_turned (some_end passes end) (passes (c ∷ end))))

moved_ends : (p : ℕ) (end : List ℕ) (passes : List ℕ → Bool) (rest : List ℕ) → after_first p passes end ∷ moved p rest (ends_from end passes rest) ≡ ends_from end (after_first p passes) rest
moved_ends p end passes [] = refl
moved_ends p end passes (c ∷ rest) = ap (λ bs. after_first p passes end ∷ bs) (moved_ends p (c ∷ end) passes rest)

-- the choice between two tests, row by row
chosen_ends : (b : Bool) (f g : List ℕ → Bool) (rest : List ℕ) → (if b then ends_from [] f rest else ends_from [] g rest) ≡ ends_from [] (λ text. if b then f text else g text) rest
chosen_ends true f g rest = refl
chosen_ends false f g rest = refl

both_rows : (b : Bool) (x y v w : List Bool) → x ≡ v → y ≡ w → (if b then x else y) ≡ (if b then v else w)
both_rows true x y v w p q = p
both_rows false x y v w p q = q

pub next_row_is : (p : ℕ) (ps rest : List ℕ) → next_row p rest (ends_from [] (is_like ps) rest) ≡ ends_from [] (is_like (p ∷ ps)) rest
next_row_is p ps rest =
    both_rows (p == 37) _ _ _ _ (set_ends false [] (is_like ps) rest refl) (moved_ends p [] (is_like ps) rest)
    ∙ chosen_ends (p == 37) (some_end (is_like ps)) (after_first p (is_like ps)) rest

-- the row of the empty pattern
no_ends : (c : ℕ) (end rest : List ℕ) → ends_from (c ∷ end) (is_like []) rest ≡ false ∷ replicate (length rest) false
no_ends c end [] = refl
no_ends c end (d ∷ rest) = ap (λ bs. false ∷ bs) (no_ends d (c ∷ end) rest)

pub first_row_is : (rest : List ℕ) → ends_from [] (is_like []) rest ≡ true ∷ replicate (length rest) false
first_row_is [] = refl
first_row_is (c ∷ rest) = ap (λ bs. true ∷ bs) (no_ends c [] rest)

pub ends_length : (end : List ℕ) (passes : List ℕ → Bool) (rest : List ℕ) → length (ends_from end passes rest) ≡ length rest + 1
ends_length end passes [] = refl
ends_length end passes (c ∷ rest) = omega (arith, ends_length (c ∷ end) passes rest)

pub reverse_more : (xs : List ℕ) (i d : ℕ) → i < length xs → reverse (take (i + 1) xs) ≡ get_or xs i d ∷ reverse (take i xs)
reverse_more xs i d h = ap reverse (take_more xs i d h) ∙ reverse-append (take i xs) (get_or xs i d ∷ [])

-- the last place of a row is that of the whole text
last_end : (end : List ℕ) (passes : List ℕ → Bool) (rest : List ℕ) (d : Bool) → get_or (ends_from end passes rest) (length rest) d ≡ passes (reverse_aux rest end)
last_end end passes [] d = refl
last_end end passes (c ∷ rest) d = last_end (c ∷ end) passes rest d

pub whole_end : (passes : List ℕ → Bool) (rest : List ℕ) (d : Bool) → get_or (ends_from [] passes rest) (length rest) d ≡ passes (reverse rest)
whole_end passes rest d = last_end [] passes rest d

pub ruleset turning = (reverse-reverse)
