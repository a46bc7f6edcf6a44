-- The splits cut the rows.
use Rattle.std.proofs.Common.{◌≡◌, ℕ, zero, suc, ◌+◌, ◌-◌, ◌*◌, ◌<◌, ◌≤◌, min, List, [], ◌∷◌, ◌++◌, take, drop, length, refl, ap, sym, ◌∙◌, subst, suc-mul, mul-le-mul_right, append-nil, append_assoc, arith}
use Rattle.std.specs.Prelude.{flat_map, sum_by, IsPermutation}
use Rattle.std.specs.List.{range_with_len}
use Rattle.std.proofs.lemmas.Grind.{div_ceil_times}
use Rattle.std.proofs.lemmas.List.Concat.{flat_map-append}
use Rattle.std.proofs.lemmas.List.Sorted.{IsPermutation-refl, IsPermutation-trans, IsPermutation-append_comm, IsPermutation-append_left, IsPermutation-append_right, sum_by-IsPermutation}
use Rattle.std.proofs.Math.Seq.{take-length}
use Rattle.split_source.specs.Splits.{split_count, split_of, rows_of_splits}
use Rattle.std.proofs.lemmas.List.Sums.{sum_by-cons, sum_by-append}
use Rattle.split_source.proofs.NumberLemmas.{Stands, found, hit, hit_itself}
use Rattle.sum_laws.proofs.SumLemmas.{range_push}

-- a split begins before the rows end
pub begins_within : (rows size number : ℕ) → 0 < size → number < split_count rows size → number * size < rows
begins_within rows size number some below =
    let ceil = div_ceil_times rows size some in
    let count : ℕ = split_count rows size in
    let more : suc number * size ≤ split_count rows size * size = mul-le-mul_right size below in
    let a : ℕ = number * size in
    let b : ℕ = split_count rows size * size in
    let step : a + size ≤ b = subst (λ k. k ≤ b) (suc-mul number size) more in
    let top : b < rows + size = ceil.1 in
    let goal : a < rows = omega arith in
    goal

module _ {A : Type 0} where
  take_nothing : (k : ℕ) → take {A = A} k [] ≡ []
  take_nothing zero = refl
  take_nothing (suc k) = refl

  pub take_on : (n k : ℕ) (xs : List A) → take (n + k) xs ≡ take n xs ++ take k (drop n xs)
  take_on zero k xs = let here : 0 + k ≡ k = omega arith in ap (λ m. take m xs) here
  take_on (suc n) k [] = take_nothing (suc n + k) ∙ sym (take_nothing k)
  take_on (suc n) k (x ∷ xs) = let here : suc n + k ≡ suc (n + k) = omega arith in ap (λ m. take m (x ∷ xs)) here ∙ ap (λ ys. x ∷ ys) (take_on n k xs)

  take_min : (k : ℕ) (xs : List A) → take (min (length xs) k) xs ≡ take k xs
  take_min zero xs = let none : min (length xs) 0 ≡ 0 = omega arith in ap (λ m. take m xs) none
  take_min (suc k) [] = take_nothing (min 0 (suc k))
  take_min (suc k) (x ∷ xs) = let here : min (suc (length xs)) (suc k) ≡ suc (min (length xs) k) = omega arith in ap (λ m. take m (x ∷ xs)) here ∙ ap (λ ys. x ∷ ys) (take_min k xs)

  take_held : (n k : ℕ) (xs : List A) → take (min (length xs) (n + k) - n) (drop n xs) ≡ take k (drop n xs)
  take_held zero k xs = let here : min (length xs) (0 + k) - 0 ≡ min (length xs) k = omega arith in ap (λ m. take m xs) here ∙ take_min k xs
  take_held (suc n) k [] = take_nothing (min 0 (suc n + k) - suc n) ∙ sym (take_nothing k)
  take_held (suc n) k (x ∷ xs) = let here : min (suc (length xs)) (suc n + k) - suc n ≡ min (length xs) (n + k) - n = omega arith in ap (λ m. take m (drop n xs)) here ∙ take_held n k xs

  pub take_over : (k : ℕ) (xs : List A) → length xs ≤ k → take k xs ≡ xs
  take_over k xs over = let all : min (length xs) k ≡ length xs = omega (arith, over) in sym (take_min k xs) ∙ ap (λ m. take m xs) all ∙ take-length xs

  split_is : (size : ℕ) (rows : List A) (n : ℕ) → split_of size rows n ≡ take size (drop (n * size) rows)
  split_is size rows n = let next : suc n * size ≡ n * size + size = suc-mul n size in let one : n + 1 ≡ suc n = omega arith in
      ap (λ m. take (min (length rows) m - n * size) (drop (n * size) rows)) (ap (λ j. j * size) one ∙ next) ∙ take_held (n * size) size rows

  first_splits : (size : ℕ) (rows : List A) (n : ℕ) → rows_of_splits size rows (range_with_len 0 n) ≡ take (n * size) rows
  first_splits size rows zero = let none : 0 ≡ 0 * size = omega arith in ap (λ m. take m rows) none
  first_splits size rows (suc n) =
      let here : 0 + n ≡ n = omega arith in
      let next : suc n * size ≡ n * size + size = suc-mul n size in
      ap (rows_of_splits size rows) (range_push 0 n ∙ ap (λ k. range_with_len 0 n ++ k ∷ []) here)
      ∙ flat_map-append (split_of size rows) (range_with_len 0 n) (n ∷ [])
      ∙ ap (λ ys. ys ++ (split_of size rows n ++ [])) (first_splits size rows n)
      ∙ ap (λ ys. take (n * size) rows ++ ys) (append-nil (split_of size rows n) ∙ split_is size rows n)
      ∙ sym (take_on (n * size) size rows)
      ∙ ap (λ m. take m rows) (sym next)

  pub all_splits : (size : ℕ) (rows : List A) → 0 < size → rows_of_splits size rows (range_with_len 0 (split_count (length rows) size)) ≡ rows
  all_splits size rows some = first_splits size rows (split_count (length rows) size) ∙ take_over (split_count (length rows) size * size) rows (div_ceil_times (length rows) size some).0

  -- lists for the same numbers, in any order, hold the same
  weighed_rows : (f : ℕ → List A) (xs ys : List ℕ) → ((h : ℕ → ℕ) → sum_by h xs ≡ sum_by h ys) → IsPermutation (flat_map f xs) (flat_map f ys)
  weighed_rows f [] [] e = IsPermutation-refl []
  weighed_rows f [] (y ∷ ys) e = absurd (omega (arith, e (λ z. 1), sum_by-cons (λ z. 1) y ys))
  weighed_rows f (x ∷ xs) ys e =
      let s : Stands x ys = found x ys (omega (arith, e (hit x), hit_itself x, sum_by-cons (hit x) x xs)) in
      let front : List A = flat_map f s.front in
      let back : List A = flat_map f s.back in
      let rest : IsPermutation (flat_map f xs) (flat_map f (s.front ++ s.back)) = weighed_rows f xs (s.front ++ s.back) (λ h. omega (arith, e h, ap (sum_by h) s.is, sum_by-cons h x xs, sum_by-append h s.front (x ∷ s.back), sum_by-cons h x s.back, sum_by-append h s.front s.back)) in
      let rest' : IsPermutation (flat_map f xs) (front ++ back) = subst (IsPermutation (flat_map f xs)) (flat_map-append f s.front s.back) rest in
      let with : IsPermutation (f x ++ flat_map f xs) (f x ++ (front ++ back)) = IsPermutation-append_right (f x) (flat_map f xs) (front ++ back) rest' in
      let turned : IsPermutation ((f x ++ front) ++ back) ((front ++ f x) ++ back) = IsPermutation-append_left back (f x ++ front) (front ++ f x) (IsPermutation-append_comm (f x) front) in
      let whole : (front ++ f x) ++ back ≡ flat_map f ys = append_assoc front (f x) back ∙ sym (ap (flat_map f) s.is ∙ flat_map-append f s.front (x ∷ s.back)) in
      subst (IsPermutation (f x ++ flat_map f xs)) whole
      (IsPermutation-trans (f x ++ flat_map f xs) (f x ++ (front ++ back)) ((front ++ f x) ++ back) with (subst (λ zs. IsPermutation zs ((front ++ f x) ++ back)) (append_assoc (f x) front back) turned))

  pub all_splits_once : (size : ℕ) (rows : List A) (numbers : List ℕ) → 0 < size → IsPermutation numbers (range_with_len 0 (split_count (length rows) size)) → IsPermutation (rows_of_splits size rows numbers) rows
  all_splits_once size rows numbers some same =
      let all : List ℕ = range_with_len 0 (split_count (length rows) size) in
      subst (IsPermutation (rows_of_splits size rows numbers)) (all_splits size rows some) (weighed_rows (split_of size rows) numbers all (λ h. sym (sum_by-IsPermutation h numbers all same)))
