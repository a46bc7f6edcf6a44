-- A page is the next rows of what was claimed.
use Rattle.std.proofs.Common.{◌≡◌, ℕ, ◌+◌, ◌-◌, ◌≤◌, List, ◌++◌, map, take, drop, length, ap, sym, ◌∙◌, arith}
use Rattle.std.proofs.lemmas.List.{length-drop, length-take-le, length-map, take-map, take-take, drop-drop, drop-map, drop-take}
use Rattle.split_source.specs.Splits.{between}
use Rattle.split_source.proofs.SplitLemmas.{take_on}

module _ {A : Type 0} where
  module _ {B : Type 0} (f : A → B) (all : List B) (rows : List A) (low high k : ℕ) (order : low ≤ high) (within : high ≤ length rows) (few : k ≤ high - low) (still : drop (length all - (high - low)) all ≡ map f (between low high rows)) where
    left : length (between low high rows) ≡ high - low
    left = length-take-le (high - low) (drop low rows) (omega (arith, length-drop low rows, within, order))

    held : high - low ≤ length all
    held = omega (arith, length-drop (length all - (high - low)) all, ap length still, length-map (between low high rows) f, left)

    further : length all - (high - (low + k)) ≡ (length all - (high - low)) + k
    further = omega (arith, held, few, order)

    front : take k (between low high rows) ≡ take k (drop low rows)
    front = let here : high - low ≡ k + (high - low - k) = omega (arith, few) in ap (λ j. take k (take j (drop low rows))) here ∙ take-take k (k + (high - low - k)) (drop low rows) (omega arith)

    back : drop k (between low high rows) ≡ between (low + k) high rows
    back =
        let here : high - low ≡ k + (high - (low + k)) = omega (arith, few, order) in
        ap (λ j. drop k (take j (drop low rows))) here ∙ drop-take k (high - (low + k)) (drop low rows) ∙ ap (λ ys. take (high - (low + k)) ys) (drop-drop k low rows)

    pub given_more : take (length all - (high - (low + k))) all ≡ take (length all - (high - low)) all ++ map f (take k (drop low rows))
    given_more =
        let n : ℕ = length all - (high - low) in
        ap (λ j. take j all) further ∙ take_on n k all ∙ ap (λ ys. take n all ++ ys) (ap (take k) still ∙ take-map f k (between low high rows) ∙ ap (map f) front)

    pub still_more : drop (length all - (high - (low + k))) all ≡ map f (between (low + k) high rows)
    still_more =
        let n : ℕ = length all - (high - low) in
        ap (λ j. drop j all) further ∙ sym (drop-drop k n all) ∙ ap (drop k) still ∙ drop-map f k (between low high rows) ∙ ap (map f) back
