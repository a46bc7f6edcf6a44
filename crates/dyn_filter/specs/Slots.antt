-- Slots that say of a value's hash whether a list may have the value.
use Rattle.std.specs.Prelude.{◌≡◌, ℕ, ◌<◌, ◌%◌, List, length, true, slice_index_or}
use Rattle.sql_values.specs.declared.value.Value.{Value}
use Rattle.cell_hashes.specs.Hashes.{hash_value, no_value}
use Rattle.dyn_filter.specs.declared.domain.Domain.{Domain}
use Rattle.dyn_filter.specs.declared.domain.Domain.TheVariants.{Nothing, Values, Range}
use Rattle.dyn_filter.specs.Lists.{is_in}

abbrev pub slot_count : ℕ
slot_count = 4096

abbrev pub slot_of : Value → ℕ
slot_of v = hash_value no_value v % slot_count

-- the slot of each value of the list is taken
pub record AreSlotsOf (list : List Value) (slots : List ℕ) : Type 0 where
  pub size : length slots ≡ slot_count
  pub taken : (v : Value) → is_in list v ≡ true → 0 < slice_index_or slots (slot_of v) 0

-- only the values of a list have slots
abbrev pub AreSlots : Domain → List ℕ → Type 0
AreSlots Nothing slots = Unit {0}
AreSlots (Values list) slots = AreSlotsOf list slots
AreSlots (Range least greatest) slots = Unit {0}
