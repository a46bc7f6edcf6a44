-- The filters of the scans of a plan, each with the keys that the right side of its join lists, and what their drivers counted.
use Rattle.std.proofs.Common.{◌≡◌, ℕ, ◌<◌, ◌≤◌, zero, suc, List, [], ◌∷◌, get_or, length, map, true, Option, None, Some, refl, ap, sym, ◌∙◌, subst, arith, take}
use Rattle.std.specs.Prelude.{All, Contains, IfSome, slice_get, unwrap_or}
use Rattle.std.specs.List.Sorted.{IsStrictlyIncreasing}
use Rattle.std.proofs.lemmas.List.Elements.{All-contains}
use Rattle.std.proofs.lemmas.Option.{slice_get_within}
use Rattle.std.proofs.lemmas.List.{length-map}
use Rattle.sql_values.specs.Cells.{cell, cut}
use Rattle.sql_values.specs.declared.types.SqlType.{SqlType}
use Rattle.sql_values.specs.declared.relational.JoinKind.TheVariants.{Inner}
use Rattle.sql_values.specs.declared.value.Value.{Value}
use Rattle.count_laws.specs.Counts.{most_count}
use Rattle.operator_core.specs.Calls.{IsLawful}
use Rattle.operator_core.specs.Rows.{Row}
use Rattle.bag_laws.specs.Gather.{gather}
use Rattle.plan_trees.specs.Allowed.{scanned, table_rows}
use Rattle.plan_trees.specs.TreeForms.{TreeForm, pair_view}
use Rattle.plan_run_laws.specs.Nets.{of_tasks}
use Rattle.plan_run_laws.specs.Placements.{Placed}
use Rattle.plan_run_laws.specs.RunPlans.{RunPlan, tree_of_run}
use Rattle.plan_run_laws.specs.Spreads.{whole}
use Rattle.tree_evaluator.specs.Fits.{FitsTables}
use Rattle.pipe_laws.specs.Pipes.{AreOver, PipeState, stopped}
use Rattle.dyn_filter.specs.declared.domain.Domain.{Domain}
use Rattle.dyn_filter.specs.Domains.{IsDomainOf}
use Rattle.dyn_filter.specs.Filters.{FilterState}
use Rattle.driver_loop.specs.Drivers.{DriverState}
use Rattle.driver_loop.specs.Turns.{filter_of_stage}
use Rattle.driver_loop.specs.contracts.stage.StageOperator.TheImpl.{ghosts}
use Rattle.driver_loop.specs.declared.stage.Stage.{Stage}
use Rattle.lost_row_laws.specs.Sieves.{Sieve}
use Rattle.sieve_laws.proofs.TypedLemmas.{typed as run_typed}
use Rattle.net_laws.specs.RunJoins.{ReachesIn}
use Rattle.plan_layout.specs.declared.filters.PlacedFilter.{PlacedFilter}
use Rattle.plan_layout.specs.Filters.{Builds, IsPlaced, filters_of_scan, scan_filters}
use Rattle.plan_layout.specs.Pipes.{BuildForm, PipeForm, SourceForm, cell as into_cell, driver_number, edge, fragment, rows, sides, table}
use Rattle.plan_layout.proofs.ScanFilterLemmas.{scan_filters_are_for}
use Rattle.net_laws.specs.Reached.{AreReached}
use Rattle.net_laws.specs.RunPipes.{RunsAs}
use Rattle.driver_net_laws.specs.Nets.{AreDriversOf, AreInFront, IsFilterFor, NetForm, front_stages}
use Rattle.driver_net_laws.specs.Settled.{AreSettled}
use Rattle.driver_net_laws.specs.States.{Flow, IsFlowOf, pipe_states_of}
use Rattle.net_laws.specs.Filtered.{FiltersReach}
use Rattle.net_laws.specs.Tidy.{IsOwnScan, IsTidy}
use Rattle.net_laws.proofs.DriverLemmas.{all_known}
use Rattle.net_laws.proofs.EndLemmas.{all_over}
use Rattle.net_laws.proofs.FilterStageLemmas.{dynamic_raw}
use Rattle.net_laws.proofs.FrontLemmas.{in_front}
use Rattle.net_laws.proofs.KnownLemmas.{IsKnownAs, domain_there, domains_known, first_there, later_there, of_drivers}
use Rattle.net_laws.proofs.ListLemmas.{same_some}
use Rattle.net_laws.proofs.NoteLemmas.{contains_got}
use Rattle.net_laws.proofs.SieveLemmas.{all_sifted, due, of_join, reaches, rings, sized}
use Rattle.net_laws.proofs.StandLemmas.{Passes}
use Rattle.net_laws.specs.FilterStages.{AreOperatorsOf}
use Rattle.net_laws.specs.ScanFilters.{IsCountOf, ScanFilter, up_to_id}
use Rattle.net_laws.proofs.IdLemmas.{first_by_id}
use Rattle.net_laws.specs.PlanCounts.{AreCountable, AreFiltersOfJoins, HasCounts, IsFilterOfJoin, key_column, rows_passed, rows_scanned}
use Rattle.net_laws.proofs.CountedPipeLemmas.{counts_first}
use Rattle.net_laws.proofs.RightKeyLemmas.{same_domain}
use Rattle.net_laws.proofs.PlacedLemmas.{IsPlaced as HasSpread}
use Rattle.net_laws.proofs.RightLemmas.{RightOf, right_listed}
use Rattle.net_laws.proofs.CountedStageLemmas.{AllKnowKeys, KnowsKeys, are_operators}

-- what is at a place of the scan's filters
pub filter_at : (tree : TreeForm) (tables : List (List Row)) (layout : List PipeForm) (fs : List PlacedFilter) (filters : List ScanFilter)
    → AreFiltersOfJoins tree tables layout fs filters
    → (place : ℕ) (f : PlacedFilter) → slice_get fs place ≡ Some f
    → (s : ScanFilter) × (s ≡ get_or filters place s) × (s.id ≡ f.filter.id) × (place < length filters)
filter_at tree tables layout [] filters are place f is = absurd cc
filter_at tree tables layout (g ∷ fs) [] are place f is = absurd are
filter_at tree tables layout (g ∷ fs) (s ∷ filters) are zero f is =
    let same : g ≡ f = same_some is in
    (s, refl, are.0.1.id ∙ ap (λ (h : PlacedFilter). h.filter.id) same, omega arith)
filter_at tree tables layout (g ∷ fs) (s ∷ filters) are (suc place) f is =
    let there = filter_at tree tables layout fs filters are.1 place f is in
    (there.0, there.1, there.2, omega (arith, there.3))

-- the ids of the scan's filters are those of the placed ones
pub ids_same : (tree : TreeForm) (tables : List (List Row)) (layout : List PipeForm) (fs : List PlacedFilter) (filters : List ScanFilter)
    → AreFiltersOfJoins tree tables layout fs filters
    → map (λ (f : PlacedFilter). f.filter.id) fs ≡ map (λ (s : ScanFilter). s.id) filters
ids_same tree tables layout [] [] are = refl
ids_same tree tables layout [] (s ∷ filters) are = absurd are
ids_same tree tables layout (f ∷ fs) [] are = absurd are
ids_same tree tables layout (f ∷ fs) (s ∷ filters) are =
    let rest = ids_same tree tables layout fs filters are.1 in
    λ i. sym are.0.1.id i ∷ rest i

-- the pipe that builds is found by its place, and what it builds by the pipe
same_pipe : (layout : List PipeForm) (at : ℕ) (build other : BuildForm) (b : Builds layout at build) (o : Builds layout at other) → b.pipe ≡ o.pipe
same_pipe layout at build other b o = same_some (sym b.is ∙ o.is)

same_build : (layout : List PipeForm) (at : ℕ) (build other : BuildForm) → Builds layout at build → Builds layout at other → build ≡ other
same_build layout at build other b o =
    let cells : into_cell build ≡ into_cell other = sym b.gives ∙ ap (λ (p : PipeForm). p.target) (same_pipe layout at build other b o) ∙ o.gives in
    cc cells

module _ (net : NetForm) (drivers : List DriverState) (of : AreDriversOf net drivers) (settled : AreSettled net drivers) (flow : Flow)
    (flowed : IsFlowOf net.layout drivers flow)
    (laws : IsLawful ghosts) (tidy : IsTidy net.layout) (passes : Passes net drivers flow) (finished : All (λ d. d.is_finished ≡ true) drivers)
    (run : RunPlan) (fits : FitsTables (tree_of_run run) net.tables) (placed : Placed 1 run whole)
    (reached : AreReached net.layout run) (reach : FiltersReach net.layout run) where
  abbrev tree : TreeForm
  tree = tree_of_run run

  abbrev P : ℕ → PipeState Stage
  P = pipe_states_of net.layout drivers flow

  abbrev own_due : ℕ → List Sieve
  own_due = due net drivers of settled flow flowed run reach

  over : AreOver P
  over = all_over net drivers of settled flow flowed laws finished

  abbrev Right : ℕ → BuildForm → Type 0
  Right = RightOf net drivers of settled flow flowed laws tidy passes (of_join net drivers) own_due over tree

  reaches_in : (f : PlacedFilter) (p : IsPlaced net.layout f) → ReachesIn run p.build.join (map pair_view p.build.on) f.filter
  reaches_in f p = reaches net drivers of settled flow flowed run reach f.pipe p.build p.builds f.place f.filter p.there

  -- the right side of a filter's join
  right_of : (f : PlacedFilter) (p : IsPlaced net.layout f) → Right f.pipe p.build
  right_of f p =
      let r = reaches_in f p in
      let root = reached.root in
      let typed = run_typed run net.tables fits in
      let sifted = all_sifted net drivers of settled flow flowed run reach typed 1 reached.at root.pipe.drivers root.pipe.source root.pipe.steps root.so in
      let spread : HasSpread 1 run = record { spread = whole; placed = placed; some = omega arith } in
      let l = right_listed net drivers of settled flow flowed laws tidy passes (of_join net drivers) own_due over 1 run spread fits
      reached.at root.pipe.drivers root.pipe.source root.pipe.steps root.so [] sifted.down sifted.all p.build.join Inner r.side r.has in
      let b : Builds net.layout l.at l.build = record { pipe = l.side.pipe.pipe; is = l.side.pipe.is; gives = l.side.pipe.has } in
      let place : l.at ≡ f.pipe = reach.apart.builds l.at f.pipe l.build p.build b p.builds l.join in
      let here = subst (λ (j : ℕ). Builds net.layout j l.build) place b in
      let build : l.build ≡ p.build = same_build net.layout f.pipe l.build p.build here p.builds in
      subst (Right f.pipe) build (subst (λ (j : ℕ). Right j l.build) place l.side)

  -- the filter, with its keys
  abbrev with_keys : (f : PlacedFilter) → IsPlaced net.layout f → ScanFilter
  with_keys f p = record {
    id = f.filter.id;
    column = f.filter.column;
    keys = map (λ (row : Row). cell row (key_column p.build.on f.filter)) (right_of f p).listed.rows;
    waits = f.filter.wait;
  }

  is_of_join : (f : PlacedFilter) (p : IsPlaced net.layout f) → IsFilterOfJoin tree net.tables p.build.join p.build.on f.filter (with_keys f p)
  is_of_join f p =
      let r = right_of f p in
      record {
        id = refl;
        column = refl;
        waits = refl;
        right = tree_of_run r.right;
        has = r.has;
        rows = r.listed.rows;
        lists = r.listed.given;
        keys = refl;
      }

  -- what a stage knows of it
  module _ (types : List SqlType) (f : PlacedFilter) (p : IsPlaced net.layout f) (d : DriverState) (at_driver : Contains drivers d) (s : Stage)
      (there : Contains d.stages s)
      (is : IsFilterFor net types f (ghosts.as_made s)) where
    abbrev op : FilterState
    op = (dynamic_raw s is.op types is.is).raw

    abbrev key_of : Row → Value
    key_of row = cell row (key_column p.build.on f.filter)

    known_is : (domain : Domain) → op.known ≡ Some domain → IsDomainOf (with_keys f p).keys domain
    known_is domain known =
        let r = right_of f p in
        let right : Builds net.layout f.pipe p.build = record { pipe = r.pipe.pipe; is = r.pipe.is; gives = r.pipe.has } in
        let tasks = ap (λ (q : PipeForm). q.tasks) (same_pipe net.layout f.pipe p.build p.build p.builds right) ∙ r.pipe.tasks in
        let size = sized net drivers of settled flow flowed run reach types f p d at_driver s there is ∙ tasks in
        let bell = rings net drivers of settled flow flowed run reach types f p d at_driver s there is in
        let filter_is = ap filter_of_stage (dynamic_raw s is.op types is.is).is in
        let among = domain_there drivers (net.links.filters f.pipe f.place) r.n d at_driver s there op filter_is bell size domain known in
        let Is = RunsAs net.layout r.n r.right in
        let all = of_drivers net drivers of settled flow flowed r.n f.pipe p.build Is r.pipe f.place f.filter p.there r.right (reaches_in f p).pair in
        let one = All-contains (IsKnownAs (map pair_view p.build.on) r.n (stopped r.right (P f.pipe)) f.filter.key)
        (domains_known drivers (net.links.filters f.pipe f.place) r.n) domain all among in
        same_domain domain (map key_of (gather r.n (of_tasks (P f.pipe).drivers (P f.pipe).gave))) (map key_of r.listed.rows)
        (r.listed.same (key_column p.build.on f.filter)) one.of

    known_by : (known : Option Domain) → op.known ≡ known → IfSome known (IsDomainOf (with_keys f p).keys)
    known_by None none = tt
    known_by (Some domain) known = known_is domain known

    knows_keys : KnowsKeys (with_keys f p) op
    knows_keys = known_by op.known refl

  abbrev AllPlaced : List PlacedFilter → Type 0
  AllPlaced fs = (k : ℕ) (f : PlacedFilter) → slice_get fs k ≡ Some f → IsPlaced net.layout f

  -- those of a scan
  abbrev filters_with : (fs : List PlacedFilter) → AllPlaced fs → List ScanFilter
  filters_with [] each = []
  filters_with (f ∷ fs) each = with_keys f (each 0 f refl) ∷ filters_with fs (λ k g is. each (suc k) g is)

  are_of_joins : (fs : List PlacedFilter) (each : AllPlaced fs) → AreFiltersOfJoins tree net.tables net.layout fs (filters_with fs each)
  are_of_joins [] each = tt
  are_of_joins (f ∷ fs) each = ((each 0 f refl, is_of_join f (each 0 f refl)), are_of_joins fs (λ k g is. each (suc k) g is))

  all_know : (types : List SqlType) (fs : List PlacedFilter) (each : AllPlaced fs) (stages : List Stage) (are : AreInFront net types fs stages)
      → (d : DriverState) → Contains drivers d → ((s : Stage) → Contains stages s → Contains d.stages s)
      → AllKnowKeys net types fs (filters_with fs each) stages are
  all_know types [] each stages are d at_driver within = tt
  all_know types (f ∷ fs) each [] are d at_driver within = absurd are
  all_know types (f ∷ fs) each (s ∷ stages) are d at_driver within = (
    refl,
    refl,
    knows_keys types f (each 0 f refl) d at_driver s (within s (first_there s stages)) are.0,
    all_know types fs (λ k g is. each (suc k) g is) stages are.1 d at_driver (λ t own. within t (later_there s stages t own)),
  )

  scan_placed : (pipe : PipeForm) → AllPlaced (scan_filters net.layout pipe)
  scan_placed pipe = by pipe.scan refl
    where
      by : (o : Option ℕ) → pipe.scan ≡ o → AllPlaced (scan_filters net.layout pipe)
      by None none k f is =
          let no = subst (λ (o : Option ℕ). slice_get (filters_of_scan net.layout o) k ≡ Some f) none is in
          absurd cc
      by (Some scan) reads k f is = ((scan_filters_are_for net.layout pipe scan reads).each k f is).0

  -- what the drivers of the pipe of a table counted
  table_counts : (at : ℕ) (pipe : PipeForm) → slice_get net.layout at ≡ Some pipe
      → (place : ℕ) (columns : List ℕ) (kinds : List SqlType) → pipe.source ≡ table place columns kinds
      → length (scanned net.tables place columns) ≤ most_count → IsStrictlyIncreasing (map (λ (f : PlacedFilter). f.filter.id) (scan_filters net.layout pipe))
      → HasCounts tree net.tables net.layout drivers pipe
  table_counts at pipe is place columns kinds reads few rise =
      let fs = scan_filters net.layout pipe in
      let each = scan_placed pipe in
      let filters = filters_with fs each in
      let are = are_of_joins fs each in
      let known = all_known net drivers flow of settled flowed at pipe is in
      let there : (k d : ℕ) (in_tasks : k < pipe.tasks) (in_lanes : d < pipe.drivers) → Contains drivers (known k d in_tasks in_lanes).driver =
      λ k d in_tasks in_lanes. let it = known k d in_tasks in_lanes in contains_got drivers (driver_number pipe k d) it.driver it.there in
      let over : (k d : ℕ) (in_tasks : k < pipe.tasks) (in_lanes : d < pipe.drivers) → (known k d in_tasks in_lanes).driver.is_finished ≡ true =
      λ k d in_tasks in_lanes.
      All-contains (λ (e : DriverState). e.is_finished ≡ true) drivers (known k d in_tasks in_lanes).driver finished (there k d in_tasks in_lanes) in
      let operators : (k d : ℕ) (in_tasks : k < pipe.tasks) (in_lanes : d < pipe.drivers)
      → AreOperatorsOf ghosts filters (front_stages pipe.steps (known k d in_tasks in_lanes).driver.stages) =
      λ k d in_tasks in_lanes.
      let it = known k d in_tasks in_lanes in
      let front = front_stages pipe.steps it.driver.stages in
      let know = all_know (net.types at).taken fs each front it.is.front it.driver (there k d in_tasks in_lanes)
      (λ s own. in_front pipe.steps it.driver.stages s own) in
      are_operators net (net.types at).taken fs filters front it.is.front know in
      let hop = passes.tables at pipe is place columns kinds reads in
      record {
        filters = filters;
        are = are;
        counts = λ i f is_there.
            let within = slice_get_within fs i f is_there in
            let s = filter_at tree net.tables net.layout fs filters are i f is_there in
            let up = subst IsStrictlyIncreasing (ids_same tree net.tables net.layout fs filters are) rise in
            let first = first_by_id filters up i s.0 s.3 s.1 in
            let up_to : take (suc i) filters ≡ up_to_id f.filter.id filters = sym first ∙ ap (λ (id : ℕ). up_to_id id filters) s.2 in
            let counts = counts_first net drivers flow laws at pipe known over filters operators i within (scanned net.tables place columns) hop few in
            let of_all = subst (λ (list : List ScanFilter). IsCountOf list (scanned net.tables place columns) (rows_passed drivers pipe i)) up_to counts in
            subst (λ (source : SourceForm). IsCountOf (up_to_id f.filter.id filters) (rows_scanned net.tables source) (rows_passed drivers pipe i))
            (sym reads) of_all;
      }

  -- a pipe without a scan has no filter
  no_counts : (pipe : PipeForm) → pipe.scan ≡ None → HasCounts tree net.tables net.layout drivers pipe
  no_counts pipe none =
      let no : scan_filters net.layout pipe ≡ [] = ap (filters_of_scan net.layout) none in
      record {
        filters = [];
        are = subst (λ (fs : List PlacedFilter). AreFiltersOfJoins tree net.tables net.layout fs []) (sym no) tt;
        counts = λ i f there. let absent = subst (λ (fs : List PlacedFilter). slice_get fs i ≡ Some f) no there in absurd cc;
      }

  few_rows : AreCountable net.tables → (place : ℕ) (columns : List ℕ) → length (scanned net.tables place columns) ≤ most_count
  few_rows few place columns = omega (arith, length-map (table_rows net.tables place) (cut columns), by (slice_get net.tables place) refl)
    where
      by : (o : Option (List Row)) → slice_get net.tables place ≡ o → length (unwrap_or o []) ≤ most_count
      by None none = omega arith
      by (Some own) is = All-contains (λ (list : List Row). length list ≤ most_count) net.tables own few (contains_got net.tables place own is)

  -- what the drivers of any pipe counted
  pub has_counts : AreCountable net.tables → (at : ℕ) (pipe : PipeForm) → slice_get net.layout at ≡ Some pipe
      → IsStrictlyIncreasing (map (λ (f : PlacedFilter). f.filter.id) (scan_filters net.layout pipe)) → HasCounts tree net.tables net.layout drivers pipe
  has_counts few at pipe is rise = by pipe.source refl (tidy.scans at pipe is)
    where
      by : (source : SourceForm) → pipe.source ≡ source → IsOwnScan pipe.source pipe.scan → HasCounts tree net.tables net.layout drivers pipe
      by (table place columns kinds) reads own = table_counts at pipe is place columns kinds reads (few_rows few place columns) rise
      by (rows kinds list) reads own = no_counts pipe (subst (λ (s : SourceForm). IsOwnScan s pipe.scan) reads own)
      by sides reads own = no_counts pipe (subst (λ (s : SourceForm). IsOwnScan s pipe.scan) reads own)
      by (fragment number) reads own = no_counts pipe (subst (λ (s : SourceForm). IsOwnScan s pipe.scan) reads own)
      by (edge from numbers) reads own = no_counts pipe (subst (λ (s : SourceForm). IsOwnScan s pipe.scan) reads own)
