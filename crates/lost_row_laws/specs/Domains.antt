-- Sieves by the domains of dynamic filters, and what filters one behind the other keep.
use Rattle.std.specs.Prelude.{◌≡◌, ℕ, List, [], ◌∷◌, ◌++◌}
use Rattle.sql_values.specs.declared.types.SqlType.{SqlType}
use Rattle.sql_values.specs.declared.value.Value.{Value}
use Rattle.bag_laws.specs.Buckets.{Sits}
use Rattle.bag_laws.specs.Weights.{SameWeights}
use Rattle.plan_trees.specs.Allowed.{Mode}
use Rattle.dyn_filter.specs.declared.domain.Domain.{Domain}
use Rattle.dyn_filter.specs.Domains.{passes}
use Rattle.dyn_filter.specs.Filters.{AreKept}
use Rattle.dyn_filter.specs.Rows.{row_passes}
use Rattle.lost_row_laws.specs.Sieves.{Sieve, is_lost}

-- a filter over a column, and the domain that it knows
pub record Filtering : Type 0 where
  pub column : ℕ
  pub domain : Domain

abbrev pub sieve_of : Filtering → Sieve
sieve_of f = record { column = f.column; pass = passes f.domain }

-- what is kept of the rows by all of them, the first one first
abbrev pub KeptByAll : List Filtering → List (List Value) → List (List Value) → Type 0
KeptByAll [] kept rows = kept ≡ rows
KeptByAll (f ∷ filters) kept rows =
    (between : List (List Value)) × AreKept (row_passes f.domain f.column) between rows × KeptByAll filters kept between

-- what was kept, with some rows that may be lost, are all rows
pub record Losses (mode : Mode) (sieves : List Sieve) (types : List SqlType) (kept rows : List (List Value)) : Type 0 where
  pub lost : List (List Value)
  pub all : SameWeights (kept ++ lost) rows
  pub held : Sits (is_lost mode sieves types) lost
