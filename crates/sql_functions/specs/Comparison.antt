-- Comparisons of two values of one type.
use Rattle.std.specs.Prelude.{Bool, false, ◌||◌, if◌then◌else◌}
use Rattle.std.specs.Ordering.{is_eq, is_ne, is_lt, is_gt, is_le, is_ge}
use Rattle.std.specs.declared.cmp.Ordering.{Ordering}
use Rattle.sql_values.specs.declared.value.Value.{Value}
use Rattle.sql_values.specs.declared.value.Value.TheVariants.{Null, Boolean}
use Rattle.sql_values.specs.Order.{value_cmp}
use Rattle.sql_functions.specs.declared.name.CallName.{CallName}
use Rattle.sql_functions.specs.declared.name.CallName.TheVariants.{Equal, Unequal, Less, LessEqual, Greater, GreaterEqual}
use Rattle.sql_functions.specs.Truth.{is_null}

-- whether two values in this order make the comparison true
abbrev pub ordering_meets : CallName → Ordering → Bool
ordering_meets Equal o = is_eq o
ordering_meets Unequal o = is_ne o
ordering_meets Less o = is_lt o
ordering_meets LessEqual o = is_le o
ordering_meets Greater o = is_gt o
ordering_meets GreaterEqual o = is_ge o
ordering_meets name o = false

-- NULL where a side is NULL
abbrev pub compared : CallName → Value → Value → Value
compared name v w =
    if is_null v || is_null w then Null else Boolean (ordering_meets name (value_cmp v w))

-- whether two values differ; it is never NULL, and NULL does not differ from NULL
abbrev pub distinct : Value → Value → Value
distinct v w = Boolean (is_ne (value_cmp v w))
