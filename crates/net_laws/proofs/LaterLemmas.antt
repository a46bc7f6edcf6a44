-- What turns keep of a driver: the parts of its pipe.
use Rattle.std.proofs.Common.{◌≡◌, ◌+◌, ◌-◌, inl, inr, ℕ, zero, suc, List, [], ◌∷◌, Some, None, drop, length, map, take, refl, ap, sym, subst, ◌∙◌}
use Rattle.std.specs.Prelude.{All, slice_get}
use Rattle.std.proofs.lemmas.Simd.{map-map}
use Rattle.std.proofs.lemmas.List.Elements.{All-head, All-tail, length_all_zip}
use Rattle.sql_values.specs.declared.types.SqlType.{SqlType}
use Rattle.sql_values.specs.declared.relational.JoinKind.{JoinKind}
use Rattle.sql_values.specs.declared.value.Value.{Value}
use Rattle.operator_core.specs.Stages.{AllCameFrom, CameFrom}
use Rattle.hash_join.specs.Probing.{ProbeState}
use Rattle.dyn_filter.specs.Cells.{IsNoteOf, new_notes}
use Rattle.dyn_filter.specs.Filters.{FilterState}
use Rattle.split_source.specs.Scans.{ScanState}
use Rattle.split_source.specs.Seats.{ClaimsId}
use Rattle.output_buffer.specs.Seats.{EdgeId}
use Rattle.driver_ends.specs.Deals.{DealState}
use Rattle.driver_ends.specs.Ends.{outlet_as_made, put_as_made}
use Rattle.driver_ends.specs.Fetching.{FetchingState}
use Rattle.driver_ends.specs.Outlets.{OutletState}
use Rattle.driver_ends.specs.Sources.{LocalState, RemoteState}
use Rattle.driver_ends.specs.Targets.{TargetState}
use Rattle.driver_loop.specs.BuildFilters.{BuildFilterState, build_filter_made}
use Rattle.driver_loop.specs.Builds.{BuildState}
use Rattle.driver_loop.specs.Drivers.{DriverState, IsWhole}
use Rattle.driver_loop.specs.Ends.{source_made, target_made}
use Rattle.driver_loop.specs.RowsSources.{RowsState}
use Rattle.driver_loop.specs.Sources.{Source, Scan, Rows, Local, Remote, Fetch}
use Rattle.driver_loop.specs.contracts.stage.StageOperator.TheImpl.{ghosts}
use Rattle.driver_loop.specs.declared.stage.Stage.{Stage}
use Rattle.driver_loop.specs.declared.target.Target.{Target}
use Rattle.driver_loop.specs.declared.target.Target.TheVariants.{Build, Deal, Put, Result}
use Rattle.plan_docs.specs.declared.node.DynamicFilter.{DynamicFilter}
use Rattle.plan_run_laws.specs.Stages as stage
use Rattle.plan_run_laws.specs.RunPlans as plan
use Rattle.plan_trees.specs.Allowed.{table_rows}
use Rattle.plan_trees.specs.declared.tree.Pair.{Pair}
use Rattle.plan_trees.specs.TreeForms.{pair_view}
use Rattle.plan_spreads.specs.Runs.{output_view}
use Rattle.driver_net_laws.specs.Pipelines.{NodeStage, at_node}
use Rattle.source_laws.specs.Edges.{output_of}
use Rattle.driver_net_laws.specs.Cells.{Names}
use Rattle.driver_net_laws.specs.Stages.{IsProbeOf, IsStageOf}
use Rattle.plan_layout.specs.declared.filters.PlacedFilter.{PlacedFilter}
use Rattle.plan_layout.specs.Filters.{scan_filters}
use Rattle.plan_layout.specs.Pipes.{PipeForm, SourceForm, StepForm, TargetForm, driver_number}
use Rattle.plan_layout.specs.Pipes as form
use Rattle.driver_net_laws.specs.Nets.{AreDriversOf, AreInFront, ArePartsFor, AreStagesFor, IsDriverOf, IsFilterFor, IsPartFor, IsPutFor, IsResultTarget, IsScanFor, IsSourceFor, IsStageFor, IsTargetFor, NetForm, edges_to, front_stages, step_stages}
use Rattle.driver_net_laws.specs.Types.{types_after}
use Rattle.net_laws.specs.Later.{AreLater, IsLaterDriver}

-- turns one after the other
pub later_same : (d : DriverState) → IsLaterDriver d d
later_same d = record { number = refl; source = refl; target = λ whole. refl; stages = λ whole made came. came }

pub later_then : (a b c : DriverState) → b.fault ≡ None → IsLaterDriver a b → IsLaterDriver b c → IsLaterDriver a c
later_then a b c none first then = record {
  number = then.number ∙ first.number;
  source = then.source ∙ first.source;
  target = λ whole. then.target whole ∙ first.target (subst IsWhole (sym none) tt);
  stages = λ whole made came. then.stages whole made (first.stages (subst IsWhole (sym none) tt) made came);
}

-- each stage came from itself
came_self : (stages : List Stage) → AllCameFrom ghosts (map ghosts.as_made stages) stages
came_self [] = tt
came_self (s ∷ stages) = (inl refl, came_self stages)

stage_on : (at : NodeStage) (between given : List SqlType) (made now : Stage) → IsStageOf at between given made → CameFrom ghosts made now → IsStageOf at between given (ghosts.as_made now)
stage_on at between given made now is (inl same) = subst (IsStageOf at between given) (sym same) is
stage_on at between given made now is (inr learned) = absurd (is.fixed (ghosts.as_made now) learned)

probe_on : (names : Names) (bell : ℕ) (kind : JoinKind) (on : List (ℕ × ℕ)) (right between given : List SqlType) (made now : Stage) → IsProbeOf names bell kind on right between given made
    → CameFrom ghosts made now → IsProbeOf names bell kind on right between given (ghosts.as_made now)
probe_on names bell kind on right between given made now is (inl same) = subst (IsProbeOf names bell kind on right between given) (sym same) is
probe_on names bell kind on right between given made now is (inr learned) =
    let p = is.probes in
    let l = subst (λ (m : Stage). ghosts.may_learn m (ghosts.as_made now)) p.is learned in
    let (to, same, (source, fit, own)) = l in
    record {
      probes = record {
        op = to;
        types = p.types;
        is = same;
        of_kind = ap (λ (s : ProbeState). s.kind) own ∙ p.of_kind;
        columns = ap (λ (s : ProbeState). s.on) own ∙ p.columns;
        rings = ap (λ (s : ProbeState). s.bell) own ∙ p.rings;
        cell = ap (λ (s : ProbeState). s.note.cell) own ∙ p.cell;
      };
      types = is.types;
    }

-- a source that was made as one of a kind is of this kind, and was made as that one
record MadeAs {X : Type 0} (Kind : X → Source) (x : X) (now : Source) : Type 0 where
  own : X
  is : now ≡ Kind own
  made : source_made (Kind own) ≡ source_made (Kind x)

scan_now : (scan : ScanState) (now : Source) → source_made now ≡ source_made (Scan scan) → MadeAs Scan scan now
scan_now scan (Scan s) same = record { own = s; is = refl; made = same }
scan_now scan (Rows s) same = absurd cc
scan_now scan (Local s) same = absurd cc
scan_now scan (Remote s) same = absurd cc
scan_now scan (Fetch s) same = absurd cc

rows_now : (rows : RowsState) (now : Source) → source_made now ≡ source_made (Rows rows) → MadeAs Rows rows now
rows_now rows (Scan s) same = absurd cc
rows_now rows (Rows s) same = record { own = s; is = refl; made = same }
rows_now rows (Local s) same = absurd cc
rows_now rows (Remote s) same = absurd cc
rows_now rows (Fetch s) same = absurd cc

local_now : (local : LocalState) (now : Source) → source_made now ≡ source_made (Local local) → MadeAs Local local now
local_now local (Scan s) same = absurd cc
local_now local (Rows s) same = absurd cc
local_now local (Local s) same = record { own = s; is = refl; made = same }
local_now local (Remote s) same = absurd cc
local_now local (Fetch s) same = absurd cc

remote_now : (remote : RemoteState) (now : Source) → source_made now ≡ source_made (Remote remote) → MadeAs Remote remote now
remote_now remote (Scan s) same = absurd cc
remote_now remote (Rows s) same = absurd cc
remote_now remote (Local s) same = absurd cc
remote_now remote (Remote s) same = record { own = s; is = refl; made = same }
remote_now remote (Fetch s) same = absurd cc

fetch_now : (fetch : FetchingState) (now : Source) → source_made now ≡ source_made (Fetch fetch) → MadeAs Fetch fetch now
fetch_now fetch (Scan s) same = absurd cc
fetch_now fetch (Rows s) same = absurd cc
fetch_now fetch (Local s) same = absurd cc
fetch_now fetch (Remote s) same = absurd cc
fetch_now fetch (Fetch s) same = record { own = s; is = refl; made = same }

-- what a source is, or what stands for it
abbrev scan_or : ScanState → Source → ScanState
scan_or none (Scan s) = s
scan_or none source = none

abbrev rows_or : RowsState → Source → RowsState
rows_or none (Rows s) = s
rows_or none source = none

abbrev edge_or : EdgeId → Source → EdgeId
edge_or none (Local s) = s.seat.edge
edge_or none (Remote s) = s.seat.edge
edge_or none (Fetch s) = s.local.seat.edge
edge_or none source = none

scan_on : (list : List (List Value)) (columns : List ℕ) (size : ℕ) (claims : ClaimsId) (source now : Source) → source_made now ≡ source_made source
    → IsScanFor list columns size claims source → IsScanFor list columns size claims now
scan_on list columns size claims source now same s =
    let n = scan_now s.scan now (same ∙ ap source_made s.is) in
    let own = λ (x : Source). scan_or s.scan x in
    record {
      scan = n.own;
      is = n.is;
      of = record {
        of = ap (λ (x : Source). (scan_or s.scan x).rows) n.made ∙ s.of.of;
        cut_to = ap (λ (x : Source). (scan_or s.scan x).columns) n.made ∙ s.of.cut_to;
        sized = ap (λ (x : Source). (scan_or s.scan x).size) n.made ∙ s.of.sized;
      };
      seat = ap (λ (x : Source). (scan_or s.scan x).seat.claims) n.made ∙ s.seat;
      some = s.some;
      count = s.count;
    }

source_on : (net : NetForm) (at task : ℕ) (kind : SourceForm) (source now : Source) → source_made now ≡ source_made source → IsSourceFor net at task kind source
    → IsSourceFor net at task kind now
source_on net at task (form.table place columns kinds) source now same s = scan_on (table_rows net.tables place) columns net.split (net.links.claims at) source now same s
source_on net at task (form.rows kinds list) source now same s =
    let n = rows_now s.own now (same ∙ ap source_made s.is) in
    record { own = n.own; is = n.is; of = ap (λ (x : Source). (rows_or s.own x).rows) n.made ∙ s.of }
source_on net at task form.sides source now same s =
    let n = local_now s.local now (same ∙ ap source_made s.is) in
    record { local = n.own; is = n.is; seat = ap (edge_or s.local.seat.edge) n.made ∙ s.seat }
source_on net at task (form.fragment number) source now same s =
    let n = remote_now s.remote now (same ∙ ap source_made s.is) in
    record { remote = n.own; is = n.is; seat = ap (edge_or s.remote.seat.edge) n.made ∙ s.seat }
source_on net at task (form.edge pipe numbers) source now same s =
    let n = fetch_now s.fetch now (same ∙ ap source_made s.is) in
    record { fetch = n.own; is = n.is; seat = ap (edge_or s.fetch.local.seat.edge) n.made ∙ s.seat }

-- so it is of targets
record TargetAs {X : Type 0} (Kind : X → Target) (x : X) (now : Target) : Type 0 where
  own : X
  is : now ≡ Kind own
  made : target_made (Kind own) ≡ target_made (Kind x)

build_now : (build : BuildState) (now : Target) → target_made now ≡ target_made (Build build) → TargetAs Build build now
build_now build (Result t) same = absurd cc
build_now build (Build t) same = record { own = t; is = refl; made = same }
build_now build (Put t) same = absurd cc
build_now build (Deal t) same = absurd cc

put_now : (put : TargetState) (now : Target) → target_made now ≡ target_made (Put put) → TargetAs Put put now
put_now put (Result t) same = absurd cc
put_now put (Build t) same = absurd cc
put_now put (Put t) same = record { own = t; is = refl; made = same }
put_now put (Deal t) same = absurd cc

deal_now : (deal : DealState) (now : Target) → target_made now ≡ target_made (Deal deal) → TargetAs Deal deal now
deal_now deal (Result t) same = absurd cc
deal_now deal (Build t) same = absurd cc
deal_now deal (Put t) same = absurd cc
deal_now deal (Deal t) same = record { own = t; is = refl; made = same }

result_on : (target now : Target) → target_made now ≡ target_made target → IsResultTarget target → IsResultTarget now
result_on (Result t) (Result own) same is = tt
result_on (Result t) (Build own) same is = absurd cc
result_on (Result t) (Put own) same is = absurd cc
result_on (Result t) (Deal own) same is = absurd cc
result_on (Build t) now same is = absurd is
result_on (Put t) now same is = absurd is
result_on (Deal t) now same is = absurd is

abbrev first_or : BuildFilterState → List BuildFilterState → BuildFilterState
first_or none [] = none
first_or none (f ∷ fs) = f

abbrev rest_of : List BuildFilterState → List BuildFilterState
rest_of [] = []
rest_of (f ∷ fs) = fs

abbrev build_or : BuildState → Target → BuildState
build_or none (Build t) = t
build_or none target = none

abbrev put_or : TargetState → Target → TargetState
put_or none (Put t) = t
put_or none target = none

abbrev deal_or : DealState → Target → DealState
deal_or none (Deal t) = t
deal_or none target = none

abbrev edges_of : TargetState → List EdgeId
edges_of put = map (λ (outlet : OutletState). outlet.seat.edge) put.outlets

edges_made : (put : TargetState) → edges_of (put_as_made put) ≡ edges_of put
edges_made put = map-map (λ (outlet : OutletState). outlet.seat.edge) outlet_as_made put.outlets

put_on : (output : plan.Output) (edges : List EdgeId) (target now : Target) → target_made now ≡ target_made target → IsPutFor output edges target → IsPutFor output edges now
put_on output edges target now same t =
    let n = put_now t.put now (same ∙ ap target_made t.is) in
    record {
      put = n.own;
      is = n.is;
      sends = ap (λ (x : Target). output_of (put_or t.put x).kind) n.made ∙ t.sends;
      of = sym (edges_made n.own) ∙ ap (λ (x : Target). edges_of (put_or t.put x)) n.made ∙ edges_made t.put ∙ t.of;
    }

-- a note as it was made is one of its cell
noted_names : (names : List ℕ) → IsNoteOf names (new_notes names)
noted_names [] = refl
noted_names (name ∷ names) = ap (λ (rest : List ℕ). name ∷ rest) (noted_names names)

abbrev names_of : BuildFilterState → List ℕ
names_of f = map (λ n. n.cell) f.note.parts

part_on : (net : NetForm) (at task : ℕ) (on : List Pair) (place : ℕ) (f : DynamicFilter) (own now : BuildFilterState)
    → build_filter_made now ≡ build_filter_made own
    → IsPartFor net at task on place f own → IsPartFor net at task on place f now
part_on net at task on place f own now same p = record {
  pair = p.pair;
  column = ap (λ (x : BuildFilterState). x.column) same ∙ p.column;
  part = ap (λ (x : BuildFilterState). x.part) same ∙ p.part;
  bell = ap (λ (x : BuildFilterState). x.bell) same ∙ p.bell;
  cell = sym (noted_names (names_of now)) ∙ ap (λ (x : BuildFilterState). names_of x) same ∙ noted_names (names_of own) ∙ p.cell
      ∙ ap (λ (x : BuildFilterState). net.links.parts x.bell) (sym same);
}

parts_on : (net : NetForm) (at task : ℕ) (on : List Pair) (place : ℕ) (fs : List DynamicFilter) (owns nows : List BuildFilterState)
    → map build_filter_made nows ≡ map build_filter_made owns → ArePartsFor net at task on place fs owns → ArePartsFor net at task on place fs nows
parts_on net at task on place [] [] [] same are = tt
parts_on net at task on place [] [] (now ∷ nows) same are = absurd cc
parts_on net at task on place [] (own ∷ owns) nows same are = absurd are
parts_on net at task on place (f ∷ fs) [] nows same are = absurd are
parts_on net at task on place (f ∷ fs) (own ∷ owns) [] same are = absurd cc
parts_on net at task on place (f ∷ fs) (own ∷ owns) (now ∷ nows) same are = (
  part_on net at task on place f own now (ap (first_or (build_filter_made own)) same) are.0,
  parts_on net at task on (place + 1) fs owns nows (ap rest_of same) are.1,
)

target_on : (net : NetForm) (at task : ℕ) (kind : TargetForm) (target now : Target) → target_made now ≡ target_made target → IsTargetFor net at task kind target
    → IsTargetFor net at task kind now
target_on net at task form.result target now same t = result_on target now same t
target_on net at task (form.cell on) target now same t =
    let n = build_now t.build now (same ∙ ap target_made t.is) in
    record {
      build = n.own;
      is = n.is;
      rings = ap (λ (x : Target). (build_or t.build x).bell) n.made ∙ t.rings;
      cell = ap (λ (x : Target). (build_or t.build x).note.cell) n.made ∙ t.cell;
      by = ap (λ (x : Target). (build_or t.build x).source.keys) n.made ∙ t.by;
      of = ap (λ (x : Target). (build_or t.build x).source.types) n.made ∙ t.of;
      filters = parts_on net at task on.on 0 on.filters t.build.filters n.own.filters (ap (λ (x : Target). (build_or t.build x).filters) n.made) t.filters;
    }
target_on net at task (form.side pipe) target now same t = put_on plan.single (net.links.gathers pipe task ∷ []) target now same t
target_on net at task (form.readers output pipe) target now same t = put_on (output_view output) (edges_to net pipe) target now same t
target_on net at task (form.takers pipe) target now same t =
    let n = deal_now t.deal now (same ∙ ap target_made t.is) in
    record { deal = n.own; is = n.is; seat = ap (λ (x : Target). (deal_or t.deal x).seat.edge) n.made ∙ t.seat }

module _ (net : NetForm) (task : ℕ) (halved : List SqlType) where
  step_on : (step : StepForm) (between given : List SqlType) (made now : Stage) → IsStageFor net task halved step between given made → CameFrom ghosts made now
      → IsStageFor net task halved step between given (ghosts.as_made now)
  step_on (form.filter id predicate) between given made now is came = stage_on (at_node id (stage.filter between predicate)) between given made now is came
  step_on (form.does id s) between given made now is came = stage_on (at_node id (stage.does between s)) between given made now is came
  step_on (form.probe id kind on at) between given made now is came =
      probe_on net.links.names (net.links.cells at task) kind (map pair_view on) (net.types at).given between given made now is came
  step_on (form.partial id keys calls) between given made now is came = stage_on (at_node id (stage.partial keys calls)) between given made now is came
  step_on (form.final id keys calls) between given made now is came = stage_on (at_node id (stage.final halved (length keys) calls)) between given made now is came

  stages_on : (steps : List StepForm) (between : List SqlType) (all now : List Stage) → AreStagesFor net task halved steps between all → AllCameFrom ghosts (map ghosts.as_made all) now
      → AreStagesFor net task halved steps between now
  stages_on [] between [] [] are came = refl
  stages_on [] between [] (s ∷ now) are came = absurd came
  stages_on [] between (a ∷ all) now are came = absurd cc
  stages_on (step ∷ steps) between [] now are came = absurd are
  stages_on (step ∷ steps) between (a ∷ all) [] are came = absurd came
  stages_on (step ∷ steps) between (a ∷ all) (s ∷ now) are came = (
    step_on step between (types_after net.types halved step between) (ghosts.as_made a) s are.0 came.0,
    stages_on steps (types_after net.types halved step between) all now are.1 came.1,
  )

-- of a filter in front
filter_on : (net : NetForm) (types : List SqlType) (f : PlacedFilter) (made now : Stage) → IsFilterFor net types f made → CameFrom ghosts made now
    → IsFilterFor net types f (ghosts.as_made now)
filter_on net types f made now is (inl same) = subst (IsFilterFor net types f) (sym same) is
filter_on net types f made now is (inr learned) =
    let l = subst (λ (m : Stage). ghosts.may_learn m (ghosts.as_made now)) is.is learned in
    let (to, same, (domain, own)) = l in
    record {
      op = to;
      is = same;
      column = ap (λ (s : FilterState). s.column) own ∙ is.column;
      waits = ap (λ (s : FilterState). s.waits) own ∙ is.waits;
      bell = ap (λ (s : FilterState). s.bell) own ∙ is.bell;
      parts = ap (λ (s : FilterState). s.parts) own ∙ is.parts ∙ ap (λ (s : FilterState). net.links.parts s.bell) (sym own);
    }

front_on : (net : NetForm) (types : List SqlType) (fs : List PlacedFilter) (all now : List Stage) → AreInFront net types fs all
    → AllCameFrom ghosts (map ghosts.as_made all) now
    → AreInFront net types fs now
front_on net types [] [] [] are came = refl
front_on net types [] [] (s ∷ now) are came = absurd came
front_on net types [] (a ∷ all) now are came = absurd cc
front_on net types (f ∷ fs) [] now are came = absurd are
front_on net types (f ∷ fs) (a ∷ all) [] are came = absurd came
front_on net types (f ∷ fs) (a ∷ all) (s ∷ now) are came =
    (filter_on net types f (ghosts.as_made a) s are.0 came.0, front_on net types fs all now are.1 came.1)

-- the stages up to a place, and those from there on
came_many : (all now : List Stage) → AllCameFrom ghosts (map ghosts.as_made all) now → length now ≡ length all
came_many [] [] came = refl
came_many [] (s ∷ now) came = absurd came
came_many (a ∷ all) [] came = absurd came
came_many (a ∷ all) (s ∷ now) came = ap suc (came_many all now came.1)

came_first : (n : ℕ) (all now : List Stage) → AllCameFrom ghosts (map ghosts.as_made all) now
    → AllCameFrom ghosts (map ghosts.as_made (take n all)) (take n now)
came_first zero all now came = tt
came_first (suc n) [] [] came = tt
came_first (suc n) [] (s ∷ now) came = absurd came
came_first (suc n) (a ∷ all) [] came = absurd came
came_first (suc n) (a ∷ all) (s ∷ now) came = (came.0, came_first n all now came.1)

came_rest : (n : ℕ) (all now : List Stage) → AllCameFrom ghosts (map ghosts.as_made all) now
    → AllCameFrom ghosts (map ghosts.as_made (drop n all)) (drop n now)
came_rest zero all now came = came
came_rest (suc n) [] [] came = tt
came_rest (suc n) [] (s ∷ now) came = absurd came
came_rest (suc n) (a ∷ all) [] came = absurd came
came_rest (suc n) (a ∷ all) (s ∷ now) came = came_rest n all now came.1

module _ (net : NetForm) (task : ℕ) where
  front_later : (types : List SqlType) (fs : List PlacedFilter) (steps : List StepForm) (all now : List Stage)
      → AreInFront net types fs (front_stages steps all)
      → AllCameFrom ghosts (map ghosts.as_made all) now → AreInFront net types fs (front_stages steps now)
  front_later types fs steps all now are came =
      subst (λ (n : ℕ). AreInFront net types fs (take (n - length steps) now)) (sym (came_many all now came))
      (front_on net types fs (front_stages steps all) (take (length all - length steps) now) are (came_first (length all - length steps) all now came))

  steps_later : (halved between : List SqlType) (steps : List StepForm) (all now : List Stage)
      → AreStagesFor net task halved steps between (step_stages steps all)
      → AllCameFrom ghosts (map ghosts.as_made all) now → AreStagesFor net task halved steps between (step_stages steps now)
  steps_later halved between steps all now are came =
      subst (λ (n : ℕ). AreStagesFor net task halved steps between (drop (n - length steps) now)) (sym (came_many all now came))
      (stages_on net task halved steps between (step_stages steps all) (drop (length all - length steps) now) are
      (came_rest (length all - length steps) all now came))

module _ (net : NetForm) where
  pub driver_on : (at : ℕ) (pipe : PipeForm) (task lane : ℕ) (before after : DriverState) → IsDriverOf net at pipe task lane before → IsLaterDriver before after → IsWhole after.fault
      → IsDriverOf net at pipe task lane after
  driver_on at pipe task lane before after is later whole = record {
    number = later.number ∙ is.number;
    source = source_on net at task pipe.source before.source after.source later.source is.source;
    front = front_later net task (net.types at).taken (scan_filters net.layout pipe) pipe.steps before.stages after.stages is.front
        (later.stages whole (map ghosts.as_made before.stages) (came_self before.stages));
    stages = steps_later net task (net.types at).halved (net.types at).taken pipe.steps before.stages after.stages is.stages
        (later.stages whole (map ghosts.as_made before.stages) (came_self before.stages));
    target = target_on net at task pipe.target before.target after.target (later.target whole) is.target;
  }

  -- the driver at a place, later
  record LaterAt (now : List DriverState) (i : ℕ) (d : DriverState) : Type 0 where
    after : DriverState
    there : slice_get now i ≡ Some after
    later : IsLaterDriver d after
    whole : IsWhole after.fault

  later_at : (drivers now : List DriverState) (i : ℕ) (d : DriverState) → AreLater drivers now → All (λ e. IsWhole e.fault) now → slice_get drivers i ≡ Some d → LaterAt now i d
  later_at [] now i d later whole is = absurd cc
  later_at (c ∷ drivers) [] i d later whole is = absurd later
  later_at (c ∷ drivers) (e ∷ now) zero d later whole is =
      record { after = e; there = refl; later = subst (λ (x : DriverState). IsLaterDriver x e) (cc is) later.0; whole = All-head (λ (x : DriverState). IsWhole x.fault) e now whole }
  later_at (c ∷ drivers) (e ∷ now) (suc i) d later whole is =
      let r = later_at drivers now i d later.1 (All-tail (λ (x : DriverState). IsWhole x.fault) e now whole) is in
      record { after = r.after; there = r.there; later = r.later; whole = r.whole }

  pub drivers_on : (drivers now : List DriverState) → AreDriversOf net drivers → AreLater drivers now → All (λ e. IsWhole e.fault) now → AreDriversOf net now
  drivers_on drivers now are later whole = record {
    typed = are.typed;
    parts = are.parts;
    count = sym (length_all_zip IsLaterDriver drivers now later) ∙ are.count;
    each = λ at pipe is task lane in_tasks in_lanes.
        let h = are.each at pipe is task lane in_tasks in_lanes in
        let l = later_at drivers now (driver_number pipe task lane) h.driver later whole h.there in
        record { driver = l.after; there = l.there; is = driver_on at pipe task lane h.driver l.after h.is l.later l.whole };
  }
