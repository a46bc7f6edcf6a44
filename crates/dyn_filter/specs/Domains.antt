-- Domains: what is kept of the values of a column, and which values pass.
use Rattle.std.specs.Prelude.{◌≡◌, ◌<◌, List, length, Bool, true, false, ◌&&◌}
use Rattle.std.specs.Ordering.{is_le}
use Rattle.sql_values.specs.declared.value.Value.{Value}
use Rattle.sql_values.specs.Order.{value_cmp}
use Rattle.relation_laws.specs.Equality.{is_present}
use Rattle.dyn_filter.specs.declared.domain.Domain.{Domain}
use Rattle.dyn_filter.specs.declared.domain.Domain.TheVariants.{Nothing, Values, Range}
use Rattle.dyn_filter.specs.Lists.{AreAscending, IsValueList, is_in, most_values}

-- the value is one of these, and not NULL
abbrev pub is_among : List Value → Value → Bool
is_among values v = is_present v && is_in values v

-- the value is from the least to the greatest
abbrev pub is_between : Value → Value → Value → Bool
is_between least greatest v = is_le (value_cmp least v) && is_le (value_cmp v greatest)

abbrev pub is_held : Domain → Value → Bool
is_held Nothing v = false
is_held (Values list) v = is_in list v
is_held (Range least greatest) v = is_between least greatest v

-- NULL does not pass, whatever the domain
abbrev pub passes : Domain → Value → Bool
passes domain v = is_present v && is_held domain v

-- more different values are among these than are kept one by one
pub record AreMany (values : List Value) : Type 0 where
  pub some : List Value
  pub ascending : AreAscending some
  pub many : most_values < length some
  pub among : (v : Value) → is_in some v ≡ true → is_among values v ≡ true

-- the list has the values that are not NULL
pub record IsListOf (values list : List Value) : Type 0 where
  pub is : IsValueList list
  pub same : (v : Value) → is_in list v ≡ is_among values v

-- the least and the greatest of the values that are not NULL
pub record AreEndsOf (values : List Value) (least greatest : Value) : Type 0 where
  pub low : is_among values least ≡ true
  pub high : is_among values greatest ≡ true
  pub within : (v : Value) → is_among values v ≡ true → is_between least greatest v ≡ true

-- the domain of values: nothing where all are NULL, else each of them, and where these are too many their ends
abbrev pub IsDomainOf : List Value → Domain → Type 0
IsDomainOf values Nothing = (v : Value) → is_among values v ≡ false
IsDomainOf values (Values list) = IsListOf values list
IsDomainOf values (Range least greatest) = AreEndsOf values least greatest × AreMany values
