-- The stages in front of those for the steps of a scan's pipe are operators of the scan's filters, and count the rows that they give.
use Rattle.std.proofs.Common.{◌≡◌, ℕ, ◌<◌, zero, suc, List, [], ◌∷◌, ◌++◌, length, true, Some, ap, sym, ◌∙◌, subst, arith, take}
use Rattle.std.specs.Prelude.{IfSome, flat_map, min, slice_get}
use Rattle.sql_values.specs.declared.types.SqlType.{SqlType}
use Rattle.count_laws.specs.Counts.{most_count}
use Rattle.operator_core.specs.Rows.{Row}
use Rattle.operator_core.specs.Stages.{Linked, Steps}
use Rattle.dyn_filter.specs.Domains.{IsDomainOf}
use Rattle.dyn_filter.specs.Filters.{FilterState}
use Rattle.driver_loop.specs.Turns.{passed_of_stage}
use Rattle.driver_loop.specs.contracts.stage.StageOperator.TheImpl.{ghosts}
use Rattle.driver_loop.specs.declared.stage.Stage.{Stage}
use Rattle.driver_loop.specs.declared.stage.Stage.TheVariants.{Dynamic}
use Rattle.plan_layout.specs.declared.filters.PlacedFilter.{PlacedFilter}
use Rattle.driver_net_laws.specs.Nets.{AreInFront, NetForm}
use Rattle.net_laws.proofs.FilterStageLemmas.{dynamic_raw, noted, one_drops}
use Rattle.net_laws.specs.FilterStages.{AreOperatorsOf, DropsExactly, IsOperatorOf}
use Rattle.net_laws.specs.ScanFilters.{ScanFilter}
use Rattle.net_laws.proofs.OperatorLemmas.{filter_drops_exactly}

-- of a stage that drops rows by a filter: the domain that it knows, if any, is that of the keys
abbrev pub KnowsKeys : ScanFilter → FilterState → Type 0
KnowsKeys f op = IfSome op.known (IsDomainOf f.keys)

stage_drops_exactly : (op : FilterState) (types : List SqlType) → op.waits ≡ true → DropsExactly ghosts (noted op) (Dynamic op types)
stage_drops_exactly op types waits =
    let d = filter_drops_exactly op waits in
    record { waits = d.waits; gives = d.gives }

-- a stage is the operator of a filter with its column, that waits as it does, and whose keys it knows
pub stage_is_of : (s : Stage) (op : FilterState) (types : List SqlType) → s ≡ Dynamic op types → (f : ScanFilter) → op.column ≡ f.column → op.waits ≡ f.waits
    → KnowsKeys f op
    → IsOperatorOf ghosts f s
stage_is_of s op types is f column waits keys = record {
  noted = noted op;
  column = column;
  keys = keys;
  drops = one_drops s op types is;
  exactly = λ w. subst (DropsExactly ghosts (noted op)) (sym is) (stage_drops_exactly op types (waits ∙ w));
}

-- what is known of the stages for some filters
abbrev pub AllKnowKeys : (net : NetForm) (types : List SqlType) (fs : List PlacedFilter) (filters : List ScanFilter) (stages : List Stage)
    → AreInFront net types fs stages → Type 0
AllKnowKeys net types [] [] stages are = Unit {0}
AllKnowKeys net types [] (f ∷ filters) stages are = ⊥
AllKnowKeys net types (p ∷ fs) [] stages are = ⊥
AllKnowKeys net types (p ∷ fs) (f ∷ filters) [] are = ⊥
AllKnowKeys net types (p ∷ fs) (f ∷ filters) (s ∷ stages) are =
    (f.column ≡ p.filter.column) × (f.waits ≡ p.filter.wait) × KnowsKeys f (dynamic_raw s are.0.op types are.0.is).raw
    × AllKnowKeys net types fs filters stages are.1

pub are_operators : (net : NetForm) (types : List SqlType) (fs : List PlacedFilter) (filters : List ScanFilter) (stages : List Stage)
    (are : AreInFront net types fs stages)
    → AllKnowKeys net types fs filters stages are → AreOperatorsOf ghosts filters stages
are_operators net types [] [] stages none know = subst (AreOperatorsOf ghosts []) (sym none) tt
are_operators net types [] (f ∷ filters) stages are know = absurd know
are_operators net types (p ∷ fs) [] stages are know = absurd know
are_operators net types (p ∷ fs) (f ∷ filters) [] are know = absurd know
are_operators net types (p ∷ fs) (f ∷ filters) (s ∷ stages) are know =
    let own = are.0 in
    let d = dynamic_raw s own.op types own.is in
    let column : d.raw.column ≡ f.column = ap (λ (o : FilterState). o.column) d.made ∙ own.column ∙ sym know.0 in
    let waits : d.raw.waits ≡ f.waits = ap (λ (o : FilterState). o.waits) d.made ∙ own.waits ∙ sym know.1 in
    (stage_is_of s d.raw types d.is f column waits know.2, are_operators net types fs filters stages are.1 know.3)

-- what a stage counted is the number of rows that it gave
counted : (s : Stage) (op : FilterState) (types : List SqlType) → s ≡ Dynamic op types → (X Y : List Row) → Steps ghosts s X Y
    → op.passed ≡ min (length Y) most_count
counted s op types is X Y steps = (subst (λ (t : Stage). Steps ghosts t X Y) is steps).counted

-- so is what is found at its place
pub last_counted : (net : NetForm) (types : List SqlType) (fs : List PlacedFilter) (stages rest : List Stage) → AreInFront net types fs stages → (place : ℕ)
    → place < length fs
    → (X Y : List Row) → Linked ghosts (take (suc place) stages) X Y
    → slice_get (flat_map passed_of_stage (stages ++ rest)) place ≡ Some (min (length Y) most_count)
last_counted net types [] stages rest are place lt X Y linked = absurd (omega (arith, lt))
last_counted net types (f ∷ fs) [] rest are place lt X Y linked = absurd are
last_counted net types (f ∷ fs) (s ∷ stages) rest are zero lt X Y (M, steps, same) =
    let d = dynamic_raw s are.0.op types are.0.is in
    let gave : d.raw.passed ≡ min (length Y) most_count =
    counted s d.raw types d.is X M steps ∙ ap (λ (rows : List Row). min (length rows) most_count) same in
    subst (λ (t : Stage). slice_get (flat_map passed_of_stage (t ∷ (stages ++ rest))) 0 ≡ Some (min (length Y) most_count)) (sym d.is)
    (ap (λ (n : ℕ). Some n) gave)
last_counted net types (f ∷ fs) (s ∷ stages) rest are (suc place) lt X Y (M, steps, linked) =
    let d = dynamic_raw s are.0.op types are.0.is in
    let later = last_counted net types fs stages rest are.1 place (omega (arith, lt)) M Y linked in
    subst (λ (t : Stage). slice_get (flat_map passed_of_stage (t ∷ (stages ++ rest))) (suc place) ≡ Some (min (length Y) most_count)) (sym d.is) later
