-- The columns of a table.
use Rattle.std.specs.Prelude.{List, map}
use Rattle.sql_values.specs.declared.types.SqlType.{SqlType}
use Rattle.sql_values.specs.declared.types.Column.{Column}

-- the types of some columns
abbrev pub kinds : List Column → List SqlType
kinds columns = map (λ column. column.kind) columns
