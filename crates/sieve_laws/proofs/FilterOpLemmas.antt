-- `FilterOp` drops rows by what its note knows.
use Rattle.std.proofs.Common.{◌≡◌, List, [], Bool, true, false, Option, Some, None, refl, sym, subst, ◌∙◌}
use Rattle.std.specs.Prelude.{is_some, not, ◌&&◌}
use Rattle.operator_core.specs.Rows.{Row}
use Rattle.operator_core.specs.Samples.{has_row}
use Rattle.operator_core.specs.SampleLaws.{has_row-none}
use Rattle.dyn_filter.specs.declared.domain.Domain.{Domain}
use Rattle.dyn_filter.specs.contracts.filter.FilterOpOperator.TheImpl.{ghosts}
use Rattle.dyn_filter.specs.Filters.{AreKept, FilterGives, FilterState, IsKnown}
use Rattle.dyn_filter.specs.Rows.{row_passes}
use Rattle.sieve_laws.specs.FilterLanes.{Drops}

none_known : (known : Option Domain) → known ≡ None → is_some known ≡ false
none_known None is = refl
none_known (Some domain) is = absurd cc

-- once finished it holds nothing
none_held : (told : Bool) (held : List Row) → told && not (has_row held) ≡ true → held ≡ []
none_held told held e = (has_row-none held).0 (of told (has_row held) e)
  where
    of : (told holds : Bool) → told && not holds ≡ true → holds ≡ false
    of true true e = absurd cc
    of true false e = refl
    of false holds e = absurd cc

kept_of : (s : FilterState) (domain : Domain) → s.known ≡ Some domain → (X Y : List Row) → FilterGives s.waits s.column s.known [] X Y → AreKept (row_passes domain s.column) Y X
kept_of s domain is X Y (other, known, kept, same, are, waits) =
    subst (λ (rows : List Row). AreKept (row_passes domain s.column) rows X) (sym same)
    (subst (λ (d : Domain). AreKept (row_passes d s.column) kept X) (the_one s.known domain other is known) are)
  where
    the_one : (known : Option Domain) (domain other : Domain) → known ≡ Some domain → IsKnown known other → other ≡ domain
    the_one None domain other is known = absurd cc
    the_one (Some own) domain other is known = known ∙ cc is

pub filter_drops : (s : FilterState) → Drops ghosts (record { column = s.column; known = s.known }) s
filter_drops s = record {
  unknown = λ none. none_known s.known none;
  drops = λ domain is X Y gives. kept_of s domain is X Y gives;
  holds = λ none X Y went. (s.held, went.0, λ over. none_held s.is_told s.held over);
  calm = λ X node kind never. never;
}
