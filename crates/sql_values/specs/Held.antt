-- The cells that a plain block keeps in the vector of its type.
use Rattle.std.specs.Prelude.{List, map}
use Rattle.sql_values.specs.declared.types.SqlType.{SqlType}
use Rattle.sql_values.specs.declared.types.SqlType.TheVariants as kind
use Rattle.sql_values.specs.declared.value.Value.{Value}
use Rattle.sql_values.specs.declared.value.Value.TheVariants as value
use Rattle.sql_values.specs.declared.plain_block.Held.{Held}
use Rattle.sql_values.specs.declared.plain_block.Held.TheVariants.{Boolean, Bigint, Decimal, Varchar, Date}
use Rattle.sql_values.specs.Blocks.{TypedCells, or_null}

abbrev pub kind_of : Held → SqlType
kind_of (Boolean truths) = kind.Boolean
kind_of (Bigint numbers) = kind.Bigint
kind_of (Decimal p s numbers) = kind.Decimal p s
kind_of (Varchar texts) = kind.Varchar
kind_of (Date days) = kind.Date

abbrev pub cells_of : Held → List Value
cells_of (Boolean truths) = map (or_null value.Boolean) truths
cells_of (Bigint numbers) = map (or_null value.Bigint) numbers
cells_of (Decimal p s numbers) = map (or_null value.Decimal) numbers
cells_of (Varchar texts) = map (or_null value.Varchar) texts
cells_of (Date days) = map (or_null value.Date) days

abbrev pub typed : Held → TypedCells
typed held = record { kind = kind_of held; cells = cells_of held }
