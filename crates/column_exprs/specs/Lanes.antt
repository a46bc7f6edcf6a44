-- Numbers that are compared side by side, and the marks of what holds.
use Rattle.std.specs.Prelude.{◌≡◌, ◌+◌, ◌≤◌, ◌<◌, slice_index_or, ℕ, ℤ, pos, negsuc, ◌==◌, List, [], ◌∷◌, length, map, take, replicate, Bool, true, false, if◌then◌else◌}
use Rattle.std.specs.Ordering.{int_cmp}
use Rattle.std.specs.Simd.Lanes.{chunk, zip2}
use Rattle.column_exprs.specs.declared.compare.Compare.{Compare}
use Rattle.column_exprs.specs.declared.lanes.Numbers.{Numbers}
use Rattle.column_exprs.specs.declared.lanes.Numbers.TheVariants.{Column, Single}
use Rattle.column_exprs.specs.Comparisons.{holds}

-- so many numbers
abbrev pub numbers : Numbers → ℕ → List ℤ
numbers (Column items) count = items.now
numbers (Single number) count = replicate count number

-- a single one stands at each place
abbrev pub HasNumbers : Numbers → ℕ → Type 0
HasNumbers (Column items) count = length items.now ≡ count
HasNumbers (Single number) count = Unit {0}

-- the eight from a place on
abbrev pub lanes_from : Numbers → ℕ → List ℤ
lanes_from (Column items) at = chunk at 8 items.now
lanes_from (Single number) at = replicate 8 number

abbrev pub HasLanes : Numbers → ℕ → Type 0
HasLanes (Column items) at = at + 8 ≤ length items.now
HasLanes (Single number) at = Unit {0}

abbrev pub number_at : Numbers → ℕ → ℤ
number_at (Column items) k = slice_index_or items.now k (pos 0)
number_at (Single number) k = number

abbrev pub HasPlace : Numbers → ℕ → Type 0
HasPlace (Column items) k = k < length items.now
HasPlace (Single number) k = Unit {0}

-- for each two numbers whether the comparison holds
abbrev pub truths : Compare → List ℤ → List ℤ → List Bool
truths op xs ys = zip2 (λ x y. holds op (int_cmp x y)) xs ys

abbrev pub mark : Bool → ℕ
mark true = 1
mark false = 0

-- as many marks, of which so many are those of the comparison
pub record AreMarked (op : Compare) (xs ys : List ℤ) (count : ℕ) (ms : List ℕ) : Type 0 where
  pub len : length ms ≡ length xs
  pub front : take count ms ≡ take count (map mark (truths op xs ys))

abbrev pub is_marked : ℕ → Bool
is_marked m = m == 1

-- a lane has all its bits set, or none
abbrev pub lane : Bool → ℤ
lane true = negsuc 0
lane false = pos 0

-- the places whose mark is set
abbrev pub marked : List ℕ → List ℕ → List ℕ
marked (m ∷ ms) (p ∷ ps) = if is_marked m then p ∷ marked ms ps else marked ms ps
marked _ _ = []
