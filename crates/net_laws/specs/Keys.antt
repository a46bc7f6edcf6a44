-- Which values pass a dynamic filter, by the keys that the right side of its join has.
use Rattle.std.specs.Prelude.{◌&&◌, ◌||◌, List, Bool, filter, nat_lt}
use Rattle.std.specs.List.{list_any}
use Rattle.std.specs.Ordering.{is_le}
use Rattle.std.specs.Set.{distinct_count}
use Rattle.sql_values.specs.declared.value.Value.{Value}
use Rattle.sql_values.specs.Order.{value_cmp}
use Rattle.relation_laws.specs.Equality.{is_present, same_value}
use Rattle.dyn_filter.specs.Lists.{is_in, most_values}

-- those that are not NULL
abbrev pub present_keys : List Value → List Value
present_keys keys = filter is_present keys

-- more than 1 000 of them are different
abbrev pub are_many : List Value → Bool
are_many keys = nat_lt most_values (distinct_count same_value (present_keys keys))

-- the value lies from the least of them to the greatest: one of them is no greater, and one is no less
abbrev pub is_spanned : List Value → Value → Bool
is_spanned keys v = list_any (λ key. is_le (value_cmp key v)) (present_keys keys) && list_any (λ key. is_le (value_cmp v key)) (present_keys keys)

-- The value is not NULL and is one of the keys or, where more than 1 000 different keys are not NULL, lies from the least of
-- these to the greatest.
abbrev pub passes_keys : List Value → Value → Bool
passes_keys keys v = is_present v && (is_in keys v || (are_many keys && is_spanned keys v))
