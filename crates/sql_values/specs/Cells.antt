-- The cells of a row, and a row cut to some of its columns.
use Rattle.std.specs.Prelude.{ℕ, List, unwrap_or, slice_get, map}
use Rattle.sql_values.specs.declared.value.Value.{Value}
use Rattle.sql_values.specs.declared.value.Value.TheVariants as value
use Rattle.sql_values.specs.declared.value.ValueRef.{ValueRef}
use Rattle.sql_values.specs.declared.value.ValueRef.TheVariants.{Null, Boolean, Bigint, Decimal, Varchar, Date}

-- the value that is lent
abbrev pub lent_value : ValueRef → Value
lent_value Null = value.Null
lent_value (Boolean truth) = value.Boolean truth
lent_value (Bigint n) = value.Bigint n
lent_value (Decimal unscaled) = value.Decimal unscaled
lent_value (Varchar text) = value.Varchar text.now
lent_value (Date day) = value.Date day

-- the value in a column of a row: NULL past its last column
abbrev pub cell : List Value → ℕ → Value
cell row column = unwrap_or (slice_get row column) value.Null

-- the row of the named columns, in their order
abbrev pub cut : List ℕ → List Value → List Value
cut columns row = map (cell row) columns
