-- Rows in the layout between the halves of an aggregate.
use Rattle.std.specs.Prelude.{ℕ, List, Bool, drop, map}
use Rattle.sql_values.specs.declared.types.SqlType.{SqlType}
use Rattle.sql_values.specs.declared.value.Value.{Value}
use Rattle.sql_values.specs.declared.relational.Call.{Call}
use Rattle.accumulators.specs.Columns.{kind_in}
use Rattle.accumulators.specs.Limits.{is_partial}

-- keys of so many columns, and calls over rows of these types
pub record Layout : Type 0 where
  pub width : ℕ
  pub types : List SqlType
  pub calls : List Call

-- whether a row of the layout's types has a partial row behind its key
abbrev pub is_layout_row : Layout → List Value → Bool
is_layout_row layout row = is_partial layout.calls (map (kind_in layout.types) layout.calls) (drop layout.width row)
