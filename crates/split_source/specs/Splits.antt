-- How rows are cut into splits.
use Rattle.std.specs.Prelude.{◌≡◌, ℕ, ◌+◌, ◌-◌, ◌*◌, ◌/◌, ◌%◌, min, List, take, drop, length}
use Rattle.std.specs.Prelude.{flat_map}
use Rattle.std.specs.List.{range_with_len}
use Rattle.sql_values.specs.Bags.{SameBag}

-- how many splits of this size rows are cut into: the size goes into the rows so often, rounded up
abbrev pub split_count : ℕ → ℕ → ℕ
split_count rows size = rows / size + min 1 (rows % size)

-- where a split begins, and where it ends
abbrev pub split_low : ℕ → ℕ → ℕ
split_low size number = number * size

abbrev pub split_high : ℕ → ℕ → ℕ → ℕ
split_high rows size number = min rows ((number + 1) * size)

-- the numbers of all splits
abbrev pub split_numbers : ℕ → ℕ → List ℕ
split_numbers rows size = range_with_len 0 (split_count rows size)

-- the rows from one place up to, and without, another
abbrev pub between : {A : Type 0} → ℕ → ℕ → List A → List A
between low high rows = take (high - low) (drop low rows)

-- the rows of a split
abbrev pub split_of : {A : Type 0} → ℕ → List A → ℕ → List A
split_of size rows number = between (split_low size number) (split_high (length rows) size number) rows

-- the rows of the splits of these numbers, one after another
abbrev pub rows_of_splits : {A : Type 0} → ℕ → List A → List ℕ → List A
rows_of_splits size rows numbers = flat_map (split_of size rows) numbers

-- The splits one after another are the rows.
abbrev pub CutInOrder : {A : Type 0} → ℕ → List A → Type 0
CutInOrder size rows = rows_of_splits size rows (split_numbers (length rows) size) ≡ rows

-- In whatever order the splits are taken, they have the rows.
abbrev pub CutInAnyOrder : {A : Type 0} → ℕ → List A → Type 0
CutInAnyOrder size rows =
    (numbers : List ℕ) → SameBag numbers (split_numbers (length rows) size)
    → SameBag (rows_of_splits size rows numbers) rows
