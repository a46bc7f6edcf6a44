-- What the drivers of a scan's pipe counted.
use Rattle.std.proofs.Common.{◌≡◌, ℕ, ◌<◌, ◌≤◌, suc, List, [], ◌∷◌, length, true, false, Option, Some, refl, ap, sym, subst, arith, take}
use Rattle.std.specs.Prelude.{flat_map, min, option_map, slice_get, sum, unwrap_or}
use Rattle.std.specs.List.{list_all}
use Rattle.std.proofs.lemmas.List.Sums.{count_by-le-length}
use Rattle.count_laws.specs.Counts.{most_count}
use Rattle.operator_core.specs.Calls.{IsLawful}
use Rattle.operator_core.specs.Rows.{Row}
use Rattle.operator_core.specs.Stages.{ToldInTurn}
use Rattle.bag_laws.specs.Gather.{gather}
use Rattle.bag_laws.proofs.GatherLemmas.{gather-agree}
use Rattle.plan_run_laws.specs.Nets.{Lanes, of_tasks}
use Rattle.plan_run_laws.specs.Stops.{AllSet, Hop}
use Rattle.plan_run_laws.proofs.LaneLemmas.{chosen_lanes}
use Rattle.driver_loop.specs.Drivers.{DriverState}
use Rattle.driver_loop.specs.Ends.{has_ended, rows_taken}
use Rattle.driver_loop.specs.Turns.{passed_of_stage}
use Rattle.driver_loop.specs.contracts.stage.StageOperator.TheImpl.{ghosts}
use Rattle.driver_loop.specs.declared.stage.Stage.{Stage}
use Rattle.sieve_laws.proofs.SplitLemmas.{told_both}
use Rattle.plan_layout.specs.declared.filters.PlacedFilter.{PlacedFilter}
use Rattle.plan_layout.specs.Filters.{scan_filters}
use Rattle.plan_layout.specs.Pipes.{PipeForm}
use Rattle.driver_net_laws.specs.Nets.{NetForm, front_stages, step_stages}
use Rattle.driver_net_laws.specs.Settled.{in_pipe, listed, of_lane}
use Rattle.driver_net_laws.specs.States.{Flow, fact_of, rows_taken_by, sources_ended}
use Rattle.net_laws.proofs.DriverLemmas.{AllKnown}
use Rattle.net_laws.proofs.FrontLemmas.{cut, front_finished}
use Rattle.net_laws.specs.FilterStages.{AllHaveFiltered, AreOperatorsOf, HaveFiltered}
use Rattle.net_laws.specs.ScanFilters.{IsCountOf, ScanFilter, passes_filter, sum_of_drivers, waited_for}
use Rattle.net_laws.proofs.CountingDriverLemmas.{drivers_count}
use Rattle.net_laws.proofs.FirstLemmas.{first_filters}
use Rattle.net_laws.specs.PlanCounts.{passed_at, rows_passed}
use Rattle.net_laws.proofs.CountedStageLemmas.{last_counted}

module _ (net : NetForm) (drivers : List DriverState) (flow : Flow) (laws : IsLawful ghosts) (at : ℕ) (pipe : PipeForm)
    (known : AllKnown net drivers flow at pipe)
    (finished : (k d : ℕ) (in_tasks : k < pipe.tasks) (in_lanes : d < pipe.drivers) → (known k d in_tasks in_lanes).driver.is_finished ≡ true)
    (filters : List ScanFilter)
    (operators : (k d : ℕ) (in_tasks : k < pipe.tasks) (in_lanes : d < pipe.drivers)
    → AreOperatorsOf ghosts filters (front_stages pipe.steps (known k d in_tasks in_lanes).driver.stages))
    (place : ℕ) (there : place < length (scan_filters net.layout pipe)) where
  abbrev fs : List PlacedFilter
  fs = scan_filters net.layout pipe

  -- the first of the stages in front, up to the one at the place
  abbrev first : ℕ → ℕ → List Stage
  first = fact_of [] (λ (d : DriverState). take (suc place) (front_stages pipe.steps d.stages)) drivers pipe

  -- a driver's filters up to that one gave these rows, and so many it counted
  abbrev Gave : ℕ → ℕ → List Row → Type 0
  Gave k d rows =
      HaveFiltered ghosts (take (suc place) filters) (first k d) (rows_taken_by drivers pipe k d) rows (sources_ended drivers pipe k d)
      × (of_lane (passed_at place) drivers pipe k d ≡ min (length rows) most_count ∷ [])

  gave_at : (k d : ℕ) → k < pipe.tasks → d < pipe.drivers → (rows : List Row) × Gave k d rows
  gave_at k d in_tasks in_lanes =
      let it = known k d in_tasks in_lanes in
      let stages = it.driver.stages in
      let front = front_stages pipe.steps stages in
      let rest = step_stages pipe.steps stages in
      let over = has_ended it.driver.source in
      let turns = it.goes.turns it.still.whole in
      let done = (it.goes.over (finished k d in_tasks in_lanes)).1 in
      let have : HaveFiltered ghosts filters front (rows_taken it.driver.source) (flow.came at k d) over = record {
        are = operators k d in_tasks in_lanes;
        turns = (told_both ghosts front rest over (subst (ToldInTurn ghosts over) (cut pipe.steps stages) turns)).0;
        linked = it.through.front;
        finished = front_finished laws pipe.steps stages over turns done;
      } in
      let some = first_filters ghosts laws filters front (rows_taken it.driver.source) (flow.came at k d) over have (suc place) in
      let rows = some.0 in
      let found = last_counted net (net.types at).taken fs front rest it.is.front place there (rows_taken it.driver.source) rows some.1.linked in
      let whole = subst (λ (ss : List Stage). slice_get (flat_map passed_of_stage ss) place ≡ Some (min (length rows) most_count))
      (sym (cut pipe.steps stages)) found in
      let own : passed_at place it.driver ≡ min (length rows) most_count ∷ [] = ap (λ (o : Option ℕ). listed o) whole in
      let here : HaveFiltered ghosts (take (suc place) filters) (take (suc place) front) (rows_taken it.driver.source) rows over
      × (passed_at place it.driver ≡ min (length rows) most_count ∷ []) = (some.1, own) in (
        rows,
        subst (λ (o : Option DriverState).
            HaveFiltered ghosts (take (suc place) filters) (unwrap_or (option_map (λ (e : DriverState). take (suc place) (front_stages pipe.steps e.stages)) o) [])
            (unwrap_or (option_map (λ (e : DriverState). rows_taken e.source) o) []) rows (unwrap_or (option_map (λ (e : DriverState). has_ended e.source) o) false)
            × (unwrap_or (option_map (passed_at place) o) [] ≡ min (length rows) most_count ∷ [])) (sym it.there) here,
      )

  abbrev all_gave : (gave : Lanes) × ((k d : ℕ) → k < pipe.tasks → d < pipe.drivers → Gave k d (gave k d))
  all_gave = chosen_lanes Gave pipe.tasks pipe.drivers gave_at

  abbrev gave : Lanes
  gave = all_gave.0

  abbrev counts : ℕ → ℕ → ℕ
  counts k d = min (length (gave k d)) most_count

  have_filtered : AllHaveFiltered ghosts (take (suc place) filters) pipe.tasks pipe.drivers first (rows_taken_by drivers pipe) gave
      (sources_ended drivers pipe) counts
  have_filtered k d in_tasks in_lanes = ((all_gave.1 k d in_tasks in_lanes).0, refl)

  summed : sum (in_pipe (passed_at place) drivers pipe) ≡ sum_of_drivers pipe.tasks pipe.drivers counts
  summed =
      ap sum
      (gather-agree pipe.tasks (λ k. gather pipe.drivers (of_lane (passed_at place) drivers pipe k)) (λ k. gather pipe.drivers (λ d. counts k d ∷ [])) (λ k in_tasks.
      gather-agree pipe.drivers (of_lane (passed_at place) drivers pipe k) (λ d. counts k d ∷ []) (λ d in_lanes. (all_gave.1 k d in_tasks in_lanes).1)))

  -- over all rows of a table
  pub counts_first : (rows : List Row)
      → Hop rows (gather pipe.tasks (of_tasks pipe.drivers (rows_taken_by drivers pipe))) (AllSet pipe.tasks pipe.drivers (sources_ended drivers pipe)) (Unit {0})
      → length rows ≤ most_count → IsCountOf (take (suc place) filters) rows (rows_passed drivers pipe place)
  counts_first rows hop few =
      let up_to = take (suc place) filters in
      let took = rows_taken_by drivers pipe in
      let ended = sources_ended drivers pipe in
      let all = drivers_count ghosts laws up_to pipe.tasks pipe.drivers first took gave ended counts have_filtered rows hop few in
      let within = count_by-le-length (λ (row : Row). list_all (passes_filter row) (waited_for up_to)) rows in
      let same : rows_passed drivers pipe place ≡ sum_of_drivers pipe.tasks pipe.drivers counts = omega (arith, summed, all.most, within, few) in
      subst (IsCountOf up_to rows) (sym same) all
