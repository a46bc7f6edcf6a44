-- The types of the rows of a node.
use Rattle.std.specs.Prelude.{List, None, unwrap_or}
use Rattle.sql_values.specs.declared.types.SqlType.{SqlType}
use Rattle.plan_types.specs.declared.row_types.RowTypes.{RowTypes}

abbrev pub plain : List SqlType → RowTypes
plain columns = record { columns = columns; whole = None }

-- the columns of the whole operator: those of the node itself where it is no PARTIAL aggregate
abbrev pub whole_of : RowTypes → List SqlType
whole_of types = unwrap_or types.whole types.columns
