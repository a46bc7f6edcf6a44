-- What the laws speak of.
use Rattle.std.specs.Prelude.{List, pos}
use Rattle.sql_values.specs.declared.value.Value.{Value}
use Rattle.sql_values.specs.declared.value.Value.TheVariants.{Null, Bigint}
use Rattle.sql_values.specs.declared.relational.Call.{Call}
use Rattle.sql_values.specs.declared.relational.Call.TheVariants.{CountAll, Count}
use Rattle.sql_values.specs.declared.order.KeySpec.{KeySpec}
use Rattle.relation_laws.specs.Sorts.{IsSortOf}

-- the result of a call over no row
abbrev pub of_no_row : Call → Value
of_no_row CountAll = Bigint (pos 0)
of_no_row (Count column) = Bigint (pos 0)
of_no_row call = Null

-- there is a sorted list of the rows
abbrev pub CanBeSorted : List KeySpec → List (List Value) → Type 0
CanBeSorted keys rows = (sorted : List (List Value)) × IsSortOf keys rows sorted
