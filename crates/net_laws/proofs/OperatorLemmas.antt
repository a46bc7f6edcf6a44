-- `FilterOp` is the operator of a filter.
use Rattle.std.proofs.Common.{◌≡◌, List, [], true, Option, Some, None, ap, ◌∙◌}
use Rattle.std.specs.Prelude.{IfSome, filter}
use Rattle.operator_core.specs.Rows.{Row}
use Rattle.dyn_filter.specs.contracts.filter.FilterOpOperator.TheImpl.{ghosts}
use Rattle.dyn_filter.specs.declared.domain.Domain.{Domain}
use Rattle.dyn_filter.specs.Domains.{IsDomainOf}
use Rattle.dyn_filter.specs.Filters.{FilterGives, FilterState, IsKnown}
use Rattle.dyn_filter.specs.Rows.{row_passes}
use Rattle.sieve_laws.specs.FilterLanes.{Drops}
use Rattle.net_laws.specs.ScanFilters.{ScanFilter}
use Rattle.net_laws.specs.FilterStages.{DropsExactly, IsOperatorOf}

the_known : (known : Option Domain) (domain other : Domain) → known ≡ Some domain → IsKnown known other → other ≡ domain
the_known None domain other is same = absurd cc
the_known (Some own) domain other is same = same ∙ cc is

exactly : (s : FilterState) → s.waits ≡ true → (domain : Domain) → s.known ≡ Some domain → (X Y : List Row) → FilterGives s.waits s.column s.known [] X Y → Y ≡ filter (row_passes domain s.column) X
exactly s w domain is X Y (other, known, kept, same, are, waits) =
    same ∙ waits w ∙ ap (λ (d : Domain). filter (row_passes d s.column) X) (the_known s.known domain other is known)

pub filter_drops_exactly : (s : FilterState) → s.waits ≡ true → DropsExactly ghosts (record { column = s.column; known = s.known }) s
filter_drops_exactly s w = record { waits = w; gives = λ domain is X Y gives. exactly s w domain is X Y gives }

pub filter_is_of : (s : FilterState) → Drops ghosts (record { column = s.column; known = s.known }) s → (f : ScanFilter) → s.column ≡ f.column → s.waits ≡ f.waits
    → IfSome s.known (IsDomainOf f.keys) → IsOperatorOf ghosts f s
filter_is_of s drops f column waits keys = record {
  noted = record { column = s.column; known = s.known };
  column = column;
  keys = keys;
  drops = drops;
  exactly = λ w. filter_drops_exactly s (waits ∙ w);
}
