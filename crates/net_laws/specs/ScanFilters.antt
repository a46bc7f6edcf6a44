-- The dynamic filters of a scan, and how many rows pass them.
use Rattle.std.specs.Prelude.{◌≡◌, ℕ, ◌≤◌, List, [], ◌∷◌, Bool, count_by, filter, nat_le, sum}
use Rattle.std.specs.List.{list_all}
use Rattle.sql_values.specs.declared.value.Value.{Value}
use Rattle.sql_values.specs.Cells.{cell}
use Rattle.bag_laws.specs.Gather.{gather}
use Rattle.bag_laws.specs.Weights.{SameWeights}
use Rattle.net_laws.specs.Keys.{passes_keys}

-- its id, the column of the scan's rows that it tests, the keys that its join's right side has, and whether it is waited for
pub record ScanFilter : Type 0 where
  pub id : ℕ
  pub column : ℕ
  pub keys : List Value
  pub waits : Bool

-- the same filter, of which the keys may stand in another order
pub record IsAlike (f h : ScanFilter) : Type 0 where
  pub id : h.id ≡ f.id
  pub column : h.column ≡ f.column
  pub keys : SameWeights f.keys h.keys
  pub waits : h.waits ≡ f.waits

abbrev pub AreAlike : List ScanFilter → List ScanFilter → Type 0
AreAlike [] [] = Unit {0}
AreAlike (f ∷ filters) (h ∷ others) = IsAlike f h × AreAlike filters others
AreAlike filters others = ⊥

-- those with an id up to this one
abbrev pub up_to_id : ℕ → List ScanFilter → List ScanFilter
up_to_id id filters = filter (λ f. nat_le f.id id) filters

-- those that are waited for
abbrev pub waited_for : List ScanFilter → List ScanFilter
waited_for filters = filter (λ f. f.waits) filters

abbrev pub passes_filter : List Value → ScanFilter → Bool
passes_filter row f = passes_keys f.keys (cell row f.column)

-- how many of the rows pass each of the filters
abbrev pub count_passing : List ScanFilter → List (List Value) → ℕ
count_passing filters rows = count_by (λ row. list_all (passes_filter row) filters) rows

-- as many rows as the filters may let through: no more than pass each that is waited for, and no fewer than pass each of them
pub record IsCountOf (filters : List ScanFilter) (rows : List (List Value)) (number : ℕ) : Type 0 where
  pub most : number ≤ count_passing (waited_for filters) rows
  pub least : count_passing filters rows ≤ number

-- what the drivers of all tasks counted, in all
abbrev pub sum_of_drivers : ℕ → ℕ → (ℕ → ℕ → ℕ) → ℕ
sum_of_drivers n w counts = sum (gather n (λ k. gather w (λ d. counts k d ∷ [])))
