-- What the drivers of a scan took together, where stages in front of those for its pipe's steps dropped rows.
use Rattle.std.proofs.Common.{◌≡◌, ℕ, ◌<◌, List, [], ◌∷◌, Contains, false, Option, length, refl, sym, subst, arith}
use Rattle.std.specs.Prelude.{option_map, unwrap_or}
use Rattle.sql_values.specs.declared.types.SqlType.{SqlType}
use Rattle.col_pages.specs.Fits.{AllFit}
use Rattle.operator_core.specs.Calls.{IsLawful}
use Rattle.operator_core.specs.Rows.{Row}
use Rattle.operator_core.specs.Stages.{ToldInTurn, last_finished}
use Rattle.bag_laws.specs.Buckets.{Sits}
use Rattle.bag_laws.specs.Gather.{gather}
use Rattle.plan_trees.specs.Allowed.{strict}
use Rattle.plan_run_laws.specs.Nets.{Lanes, of_tasks}
use Rattle.plan_run_laws.specs.Stops.{AllSet, Hop}
use Rattle.plan_run_laws.specs.Wholes.{longer}
use Rattle.driver_loop.specs.Drivers.{DriverState}
use Rattle.driver_loop.specs.Ends.{has_ended, rows_taken}
use Rattle.driver_loop.specs.contracts.stage.StageOperator.TheImpl.{ghosts}
use Rattle.driver_loop.specs.declared.stage.Stage.{Stage}
use Rattle.driver_net_laws.specs.Pipes.{TookTyped}
use Rattle.lost_row_laws.specs.Domains.{sieve_of}
use Rattle.lost_row_laws.specs.Sieves.{Sieve, is_lost}
use Rattle.sieve_laws.specs.FilterLanes.{AreAmong, AreFiltered, FilterNoted, IsFiltered}
use Rattle.sieve_laws.proofs.DropLemmas.{all_fitting, filtered, scan_filtered}
use Rattle.sieve_laws.proofs.SplitLemmas.{told_both}
use Rattle.plan_layout.specs.Pipes.{PipeForm}
use Rattle.driver_net_laws.specs.Nets.{NetForm, front_stages, step_stages}
use Rattle.driver_net_laws.specs.States.{Flow, fact_of, pipe_of, rows_taken_by, sources_ended}
use Rattle.net_laws.specs.Sifted.{AreDue, AreSifting}
use Rattle.net_laws.proofs.DriverLemmas.{AllKnown, source_took}
use Rattle.net_laws.proofs.FitLemmas.{one_fits, took_fits}
use Rattle.net_laws.proofs.FrontLemmas.{cut}

module _ (net : NetForm) (drivers : List DriverState) (flow : Flow) (laws : IsLawful ghosts) (own : ℕ) (pipe : PipeForm) (known : AllKnown net drivers flow own pipe)
    (due sieves : List Sieve) (types : List SqlType) (down : (s : Sieve) → Contains due s → Contains sieves s × (s.column < length types)) where
  come_down : (filters : List FilterNoted) → AreDue due filters → AreAmong sieves types filters
  come_down [] all = tt
  come_down (f ∷ filters) all = (
    (λ domain knows. down (sieve_of (record { column = f.column; domain = domain })) (all.0 domain knows)),
    come_down filters all.1,
  )

  abbrev front : ℕ → ℕ → List Stage
  front = fact_of [] (λ (d : DriverState). front_stages pipe.steps d.stages) drivers pipe

  abbrev IsFilteredAt : ℕ → ℕ → Type 0
  IsFilteredAt k d =
      IsFiltered ghosts sieves types (front k d) (rows_taken_by drivers pipe k d) (flow.came own k d) (sources_ended drivers pipe k d) ((pipe_of drivers flow own pipe).ended k d)

  filtered_at : (k d : ℕ) (in_tasks : k < pipe.tasks) (in_lanes : d < pipe.drivers) → AreSifting due (front_stages pipe.steps (known k d in_tasks in_lanes).driver.stages)
      → AllFit types (rows_taken_by drivers pipe k d) → IsFilteredAt k d
  filtered_at k d in_tasks in_lanes s fit =
      let it = known k d in_tasks in_lanes in
      let first = front_stages pipe.steps it.driver.stages in
      let over = has_ended it.driver.source in
      let so : IsFiltered ghosts sieves types first (rows_taken it.driver.source) (flow.came own k d) over (last_finished ghosts over first) = record {
        filters = s.filters;
        drop = s.drop;
        among = come_down s.filters s.due;
        turns = (told_both ghosts first (step_stages pipe.steps it.driver.stages) over (subst (ToldInTurn ghosts over) (cut pipe.steps it.driver.stages) (it.goes.turns it.still.whole))).0;
        linked = it.through.front;
        fit = subst (AllFit types) (source_took net drivers flow own pipe k d it) fit;
        ended_is = refl;
      } in
      subst (λ (o : Option DriverState). IsFiltered ghosts sieves types (unwrap_or (option_map (λ (e : DriverState). front_stages pipe.steps e.stages) o) [])
      (unwrap_or (option_map (λ (e : DriverState). rows_taken e.source) o) []) (flow.came own k d) (unwrap_or (option_map (λ (e : DriverState). has_ended e.source) o) false)
      (unwrap_or (option_map (λ (e : DriverState). last_finished ghosts (has_ended e.source) (front_stages pipe.steps e.stages)) o) false)) (sym it.there) so

  module _ (n : ℕ) (tasks : pipe.tasks ≡ n)
      (sifting : (k d : ℕ) (in_tasks : k < pipe.tasks) (in_lanes : d < pipe.drivers) → AreSifting due (front_stages pipe.steps (known k d in_tasks in_lanes).driver.stages))
      (table : List Row) (fits : AllFit types table)
      (hop : Hop table (gather n (of_tasks pipe.drivers (rows_taken_by drivers pipe))) (AllSet n pipe.drivers (sources_ended drivers pipe)) (Unit {0})) where
    taken_fit : (k d : ℕ) → k < n → d < pipe.drivers → AllFit types (rows_taken_by drivers pipe k d)
    taken_fit k d in_task in_lane =
        let all = took_fits types table (gather n (of_tasks pipe.drivers (rows_taken_by drivers pipe))) (AllSet n pipe.drivers (sources_ended drivers pipe)) (Unit {0}) hop fits in
        one_fits types pipe.drivers (rows_taken_by drivers pipe k) (one_fits types n (of_tasks pipe.drivers (rows_taken_by drivers pipe)) all k in_task) d in_lane

    all_filtered : AreFiltered ghosts sieves types n pipe.drivers front (rows_taken_by drivers pipe) (flow.came own) (sources_ended drivers pipe) (pipe_of drivers flow own pipe).ended
    all_filtered k d in_task in_lane =
        let in_tasks : k < pipe.tasks = omega (arith, tasks, in_task) in
        filtered_at k d in_tasks in_lane (sifting k d in_tasks in_lane) (taken_fit k d in_task in_lane)

    -- what the stages for the steps took, and what was lost in front of them
    pub scan_stands : (lost : Lanes)
        × Hop table (gather n (of_tasks pipe.drivers (longer (flow.came own) lost))) (AllSet n pipe.drivers (pipe_of drivers flow own pipe).ended) (Unit {0})
        × ((k d : ℕ) → k < n → d < pipe.drivers → Sits (is_lost strict sieves types) (lost k d))
    scan_stands =
        scan_filtered ghosts laws sieves types n pipe.drivers front (rows_taken_by drivers pipe) (flow.came own) (sources_ended drivers pipe) (pipe_of drivers flow own pipe).ended
        all_filtered table hop

    pub scan_typed : TookTyped types n (pipe_of drivers flow own pipe)
    scan_typed k d in_task in_lane =
        all_fitting types (flow.came own k d)
        (filtered ghosts laws sieves types (front k d) (rows_taken_by drivers pipe k d) (flow.came own k d) (sources_ended drivers pipe k d) ((pipe_of drivers flow own pipe).ended k d)
        (all_filtered k d in_task in_lane)).fit
