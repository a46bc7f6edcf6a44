-- When values, and when rows, are the same.
use Rattle.std.specs.Prelude.{List, Bool, true, false}
use Rattle.std.specs.Ordering.{is_eq}
use Rattle.std.specs.Cmp.Lexicographic.{pointwise}
use Rattle.sql_values.specs.declared.value.Value.{Value}
use Rattle.sql_values.specs.declared.value.Value.TheVariants.{Null}
use Rattle.sql_values.specs.Order.{value_cmp}

abbrev pub is_present : Value → Bool
is_present Null = false
is_present v = true

-- kind and content agree; NULL is the same as NULL
abbrev pub same_value : Value → Value → Bool
same_value v w = is_eq (value_cmp v w)

-- as many values, each the same as the one at its place
abbrev pub same_row : List Value → List Value → Bool
same_row = pointwise same_value
