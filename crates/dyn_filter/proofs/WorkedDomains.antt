-- Domains worked out by hand.
use Rattle.std.proofs.Common.{◌≡◌, [], ◌∷◌, true, false, refl}
use Rattle.std.specs.Prelude.{pos}
use Rattle.sql_values.specs.declared.value.Value.TheVariants.{Null, Bigint, Date}
use Rattle.dyn_filter.specs.declared.domain.Domain.{Domain}
use Rattle.dyn_filter.specs.declared.domain.Domain.TheVariants.{Nothing, Values, Range}
use Rattle.dyn_filter.specs.Domains.{passes}

pub null_is_lost : (domain : Domain) → passes domain Null ≡ false
null_is_lost domain = refl

pub nothing_passes_nothing : passes Nothing (Bigint (pos 1)) ≡ false
nothing_passes_nothing = refl

pub a_listed_value_passes : passes (Values (Bigint (pos 1) ∷ Bigint (pos 3) ∷ [])) (Bigint (pos 3)) ≡ true
a_listed_value_passes = refl

pub a_value_between_listed_ones_is_lost : passes (Values (Bigint (pos 1) ∷ Bigint (pos 3) ∷ [])) (Bigint (pos 2)) ≡ false
a_value_between_listed_ones_is_lost = refl

pub the_greatest_passes : passes (Range (Bigint (pos 1)) (Bigint (pos 3))) (Bigint (pos 3)) ≡ true
the_greatest_passes = refl

pub what_lies_behind_is_lost : passes (Range (Bigint (pos 1)) (Bigint (pos 3))) (Bigint (pos 4)) ≡ false
what_lies_behind_is_lost = refl

pub another_kind_is_lost : passes (Range (Bigint (pos 1)) (Bigint (pos 3))) (Date (pos 2)) ≡ false
another_kind_is_lost = refl
