-- A table of five rows, worked out by hand: a filter that is waited for, behind one that is not.
use Rattle.std.proofs.Common.{◌≡◌, ℕ, List, [], ◌∷◌, true, false, refl, arith}
use Rattle.std.specs.Prelude.{pos}
use Rattle.sql_values.specs.declared.value.Value.TheVariants.{Null, Bigint}
use Rattle.operator_core.specs.Rows.{Row}
use Rattle.net_laws.specs.Keys.{are_many, is_spanned, passes_keys}
use Rattle.net_laws.specs.ScanFilters.{IsCountOf, ScanFilter, count_passing, sum_of_drivers, up_to_id, waited_for}

abbrev pub table : List Row
table = (Bigint (pos 1) ∷ []) ∷ (Bigint (pos 2) ∷ []) ∷ (Bigint (pos 3) ∷ []) ∷ (Bigint (pos 3) ∷ []) ∷ (Null ∷ []) ∷ []

-- 3 and NULL, for which nobody waits
abbrev pub hasty : ScanFilter
hasty = record { id = 4; column = 0; keys = Bigint (pos 3) ∷ Null ∷ []; waits = false }

-- 2, 3 and 9, of which it has 9 twice
abbrev pub patient : ScanFilter
patient = record { id = 7; column = 0; keys = Bigint (pos 9) ∷ Bigint (pos 2) ∷ Bigint (pos 3) ∷ Bigint (pos 9) ∷ []; waits = true }

abbrev later : ScanFilter
later = record { id = 8; column = 0; keys = []; waits = true }

abbrev filters : List ScanFilter
filters = hasty ∷ patient ∷ later ∷ []

null_never_passes : passes_keys hasty.keys Null ≡ false
null_never_passes = refl

a_key_passes : passes_keys patient.keys (Bigint (pos 9)) ≡ true
a_key_passes = refl

-- keys that are few pass nothing between them
few_keys : are_many patient.keys ≡ false
few_keys = refl

between_few : passes_keys patient.keys (Bigint (pos 5)) ≡ false
between_few = refl

from_least_to_greatest : is_spanned patient.keys (Bigint (pos 5)) ≡ true
from_least_to_greatest = refl

past_the_greatest : is_spanned patient.keys (Bigint (pos 10)) ≡ false
past_the_greatest = refl

-- the filter with a greater id comes behind, and makes no difference
with_ids_up_to_7 : up_to_id 7 filters ≡ hasty ∷ patient ∷ []
with_ids_up_to_7 = refl

waited_up_to_7 : waited_for (up_to_id 7 filters) ≡ patient ∷ []
waited_up_to_7 = refl

-- 2, 3 and 3 pass the one that is waited for, and 3 and 3 pass both
pass_the_waited : count_passing (waited_for (up_to_id 7 filters)) table ≡ 3
pass_the_waited = refl

pass_both : count_passing (up_to_id 7 filters) table ≡ 2
pass_both = refl

-- so it lets through two rows or three
two_rows : IsCountOf (up_to_id 7 filters) table 2
two_rows = record { most = omega (arith, pass_the_waited); least = omega (arith, pass_both) }

three_rows : IsCountOf (up_to_id 7 filters) table 3
three_rows = record { most = omega (arith, pass_the_waited); least = omega (arith, pass_both) }

no_more : IsCountOf (up_to_id 7 filters) table 4 → ⊥
no_more count = omega (arith, count.most, pass_the_waited)

no_fewer : IsCountOf (up_to_id 7 filters) table 1 → ⊥
no_fewer count = omega (arith, count.least, pass_both)

-- two tasks of two drivers
abbrev counts : ℕ → ℕ → ℕ
counts task driver = 1

four_drivers : sum_of_drivers 2 2 counts ≡ 4
four_drivers = refl
