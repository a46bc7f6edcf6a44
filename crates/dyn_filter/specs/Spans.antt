-- The lesser and the greater of two values, and the ends of a list.
use Rattle.std.specs.Prelude.{◌-◌, List, length, if◌then◌else◌, slice_index_or}
use Rattle.std.specs.Ordering.{is_lt, is_gt}
use Rattle.sql_values.specs.declared.value.Value.{Value}
use Rattle.sql_values.specs.declared.value.Value.TheVariants.{Null}
use Rattle.sql_values.specs.Order.{value_cmp}

abbrev pub lesser : Value → Value → Value
lesser a b = if is_lt (value_cmp b a) then b else a

abbrev pub greater : Value → Value → Value
greater a b = if is_gt (value_cmp b a) then b else a

abbrev pub first_of : List Value → Value
first_of values = slice_index_or values 0 Null

abbrev pub last_of : List Value → Value
last_of values = slice_index_or values (length values - 1) Null
