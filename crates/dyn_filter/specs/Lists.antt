-- Lists of values in ascending order.
use Rattle.std.specs.Prelude.{◌≡◌, ℕ, ◌<◌, ◌≤◌, List, [], ◌∷◌, length, Bool, slice_index_or}
use Rattle.std.specs.declared.cmp.Ordering.TheVariants.{Less}
use Rattle.std.specs.List.{AllByRecursion, list_any}
use Rattle.sql_values.specs.declared.value.Value.{Value}
use Rattle.sql_values.specs.Order.{value_cmp}
use Rattle.relation_laws.specs.Equality.{same_value}

-- the most values that are kept one by one
abbrev pub most_values : ℕ
most_values = 1000

abbrev pub is_in : List Value → Value → Bool
is_in values v = list_any (same_value v) values

-- each value once, from the least to the greatest
abbrev pub AreAscending : List Value → Type 0
AreAscending [] = Unit {0}
AreAscending (v ∷ vs) = AllByRecursion (λ w. value_cmp v w ≡ Less) vs × AreAscending vs

pub record IsValueList (list : List Value) : Type 0 where
  pub ascending : AreAscending list
  pub some : 0 < length list
  pub few : length list ≤ most_values

-- the value would go at this place: lesser values before it, and greater ones from it on
pub record IsGapFor (list : List Value) (v : Value) (place : ℕ) : Type 0 where
  pub within : place ≤ length list
  pub lesser_before : (k : ℕ) (d : Value) → k < place → value_cmp (slice_index_or list k d) v ≡ Less
  pub greater_behind : (k : ℕ) (d : Value) → place ≤ k → k < length list → value_cmp v (slice_index_or list k d) ≡ Less
