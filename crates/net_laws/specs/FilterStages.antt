-- The operators of a scan's dynamic filters, in front of a driver's stages.
use Rattle.std.specs.Prelude.{◌≡◌, ℕ, ◌<◌, List, [], ◌∷◌, Bool, true, Some, IfSome, filter, length, min}
use Rattle.count_laws.specs.Counts.{most_count}
use Rattle.operator_core.specs.declared.operator.Operator.{Ghosts}
use Rattle.operator_core.specs.Rows.{Row}
use Rattle.operator_core.specs.Stages.{Linked, ToldInTurn, last_finished}
use Rattle.plan_run_laws.specs.Nets.{Lanes}
use Rattle.plan_run_laws.specs.Stops.{Flags}
use Rattle.dyn_filter.specs.declared.domain.Domain.{Domain}
use Rattle.dyn_filter.specs.Domains.{IsDomainOf}
use Rattle.dyn_filter.specs.Rows.{row_passes}
use Rattle.sieve_laws.specs.FilterLanes.{Drops, FilterNoted}
use Rattle.net_laws.specs.ScanFilters.{ScanFilter}

-- the operator waits for the domain, and drops exactly the rows whose value does not pass it
pub record DropsExactly {S : Type 0} (g : Ghosts S) (f : FilterNoted) (s : S) : Type 0 where
  pub waits : g.waits s ≡ true
  pub gives : (domain : Domain) → f.known ≡ Some domain → (X Y : List Row) → g.may_give (g.as_made s) X Y → Y ≡ filter (row_passes domain f.column) X

-- The operator is that of the filter: what its note knows, once it does, is the domain of the filter's keys, and it drops rows
-- by it; exactly, where the filter is waited for.
pub record IsOperatorOf {S : Type 0} (g : Ghosts S) (f : ScanFilter) (s : S) : Type 0 where
  pub noted : FilterNoted
  pub column : noted.column ≡ f.column
  pub keys : IfSome noted.known (IsDomainOf f.keys)
  pub drops : Drops g noted s
  pub exactly : f.waits ≡ true → DropsExactly g noted s

-- one operator for each filter
abbrev pub AreOperatorsOf : {S : Type 0} → Ghosts S → List ScanFilter → List S → Type 0
AreOperatorsOf g [] [] = Unit {0}
AreOperatorsOf g (f ∷ filters) (s ∷ stages) = IsOperatorOf g f s × AreOperatorsOf g filters stages
AreOperatorsOf g filters stages = ⊥

-- The first operators of a driver are those of filters. The rows `came` came from its source, which has ended where `over` is
-- set; the last of the filters gave the rows `gave`, and is finished.
pub record HaveFiltered {S : Type 0} (g : Ghosts S) (filters : List ScanFilter) (stages : List S) (came gave : List Row) (over : Bool) : Type 0 where
  pub are : AreOperatorsOf g filters stages
  pub turns : ToldInTurn g over stages
  pub linked : Linked g stages came gave
  pub finished : last_finished g over stages ≡ true

-- so it is of each driver of each task, and each counted the rows that the last of the filters gave
abbrev pub AllHaveFiltered : {S : Type 0} → Ghosts S → List ScanFilter → ℕ → ℕ → (ℕ → ℕ → List S) → Lanes → Lanes → Flags → (ℕ → ℕ → ℕ) → Type 0
AllHaveFiltered g filters n w stages came gave over counts =
    (k d : ℕ) → k < n → d < w → HaveFiltered g filters (stages k d) (came k d) (gave k d) (over k d) × (counts k d ≡ min (length (gave k d)) most_count)
