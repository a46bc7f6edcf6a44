-- Drivers of a net know each cell of a dynamic filter by its bell.
use Rattle.std.proofs.Common.{◌≡◌, ◌<◌, ◌∙◌, ◌-◌, ◌++◌, ◌+◌, ℕ, List, [], ◌∷◌, false, None, Some, length, map, refl, sym, subst, ap}
use Rattle.std.specs.Prelude.{All, flat_map, slice_get}
use Rattle.std.proofs.lemmas.Grind.{flat_map-append}
use Rattle.std.proofs.lemmas.List.{take-append-drop}
use Rattle.std.proofs.lemmas.List.Elements.{All-append, All-cons, All-head, All-nil, All-tail}
use Rattle.std.proofs.lemmas.Option.{same_Some, slice_get_within}
use Rattle.bag_laws.proofs.TopLemmas.{All-front}
use Rattle.sql_values.specs.declared.types.SqlType.{SqlType}
use Rattle.sql_values.specs.declared.relational.JoinKind.{JoinKind}
use Rattle.dyn_filter.specs.declared.domain.Domain.TheVariants.{Nothing}
use Rattle.dyn_filter.specs.Filters.{FilterState, unlooked}
use Rattle.driver_loop.specs.BuildFilters.{BuildFilterState}
use Rattle.driver_loop.specs.Drivers.{DriverState}
use Rattle.driver_loop.specs.Turns.{KnowsParts, filter_note_of_stage, filter_of_stage, filters_of, note_of_build_filter}
use Rattle.driver_loop.specs.contracts.stage.StageOperator.TheImpl.{ghosts}
use Rattle.driver_loop.specs.declared.pieces.FilterCellNote.{FilterCellNote}
use Rattle.driver_loop.specs.declared.stage.Stage.{Stage}
use Rattle.driver_loop.specs.declared.stage.Stage.TheVariants.{Dynamic}
use Rattle.driver_loop.specs.declared.target.Target.{Target}
use Rattle.driver_loop.specs.declared.target.Target.TheVariants.{Build, Deal, Put, Result}
use Rattle.driver_net_laws.specs.Cells.{Names}
use Rattle.driver_net_laws.specs.FilterCells.{AreOfFilterCells, part_names}
use Rattle.driver_net_laws.specs.Stages.{IsProbeOf, NeverLearns}
use Rattle.driver_net_laws.specs.Nets.{AreDriversOf, AreInFront, ArePartsFor, AreStagesFor, IsDriverOf, IsFilterFor, IsResultTarget, IsStageFor, IsTargetFor, NetForm, front_stages, step_stages}
use Rattle.driver_net_laws.specs.Settled.{WasTakenApart, filter_builds_of, filter_looks_of}
use Rattle.driver_net_laws.specs.Types.{types_after}
use Rattle.plan_docs.specs.declared.node.DynamicFilter.{DynamicFilter}
use Rattle.plan_layout.specs.declared.filters.PlacedFilter.{PlacedFilter}
use Rattle.plan_layout.specs.Filters.{scan_filters}
use Rattle.plan_layout.specs.Pipes.{PipeForm, StepForm, TargetForm, probe, result, cell, side, readers, takers}
use Rattle.plan_trees.specs.declared.tree.Pair.{Pair}
use Rattle.net_closing.specs.Closing.{AreNone, HaveKept}
use Rattle.net_closing.specs.Covered.{IsCovered}
use Rattle.net_closing.specs.declared.notes.Notes.{Notes}
use Rattle.net_closing.proofs.NoteLemmas.{all_pairs}
use Rattle.net_closing.proofs.PipeLemmas.{all_at, all_flat}

-- a stage that never learns drops no rows by a filter
fixed_looks : (s : Stage) → NeverLearns (ghosts.as_made s) → filter_note_of_stage s ≡ []
fixed_looks (Dynamic op types) fixed =
    let later : FilterState = record op { note = unlooked op.parts; known = Some Nothing; held = []; passed = 0; is_told = false } in
    absurd (fixed (Dynamic later types) (later, refl, (Nothing, refl)))
fixed_looks s fixed = refl

-- nor does one that probes
probe_looks : (names : Names) (bell : ℕ) (kind : JoinKind) (on : List (ℕ × ℕ)) (right between given : List SqlType) (s : Stage) → IsProbeOf names bell kind on right between given (ghosts.as_made s) → filter_note_of_stage s ≡ []
probe_looks names bell kind on right between given (Dynamic op types) is =
    let none : Some (record op { note = unlooked op.parts; held = []; passed = 0; is_told = false }) ≡ None = ap filter_of_stage is.probes.is in
    absurd cc
probe_looks names bell kind on right between given s is = refl

module _ (net : NetForm) where
  -- the note is one of the cell of its bell
  abbrev IsOfCell : FilterCellNote → Type 0
  IsOfCell note = part_names note ≡ net.links.parts note.bell

  front_of : (types : List SqlType) (f : PlacedFilter) (s : Stage) → IsFilterFor net types f (ghosts.as_made s) → KnowsParts s → All IsOfCell (filter_note_of_stage s)
  front_of types f (Dynamic op own) is knows =
      let made : FilterState = record op { note = unlooked op.parts; held = []; passed = 0; is_told = false } in
      let same : made ≡ is.op = same_Some made is.op (ap filter_of_stage is.is) in
      All-cons IsOfCell (record { bell = op.bell; part = None; note = op.note }) []
      (knows.of_cell ∙ ap (λ (o : FilterState). o.parts) same ∙ is.parts ∙ ap (λ (o : FilterState). net.links.parts o.bell) (sym same)) (All-nil IsOfCell)
  front_of types f s is knows = All-nil IsOfCell

  fronts_of : (types : List SqlType) (fs : List PlacedFilter) (stages : List Stage) → AreInFront net types fs stages → All KnowsParts stages → All IsOfCell (flat_map filter_note_of_stage stages)
  fronts_of types [] stages are knows = subst (λ (ss : List Stage). All IsOfCell (flat_map filter_note_of_stage ss)) (sym are) (All-nil IsOfCell)
  fronts_of types (f ∷ fs) [] are knows = absurd are
  fronts_of types (f ∷ fs) (s ∷ stages) are knows =
      All-append IsOfCell (filter_note_of_stage s) (flat_map filter_note_of_stage stages) (front_of types f s are.0 (All-head KnowsParts s stages knows))
      (fronts_of types fs stages are.1 (All-tail KnowsParts s stages knows))

  step_looks : (task : ℕ) (halved : List SqlType) (step : StepForm) (between given : List SqlType) (s : Stage) → IsStageFor net task halved step between given (ghosts.as_made s)
      → filter_note_of_stage s ≡ []
  step_looks task halved (probe id kind on at) between given s is = probe_looks _ _ _ _ _ between given s is
  step_looks task halved step between given s is = fixed_looks s is.fixed

  steps_look : (task : ℕ) (halved : List SqlType) (steps : List StepForm) (between : List SqlType) (stages : List Stage) → AreStagesFor net task halved steps between stages
      → flat_map filter_note_of_stage stages ≡ []
  steps_look task halved [] between stages are = ap (flat_map filter_note_of_stage) are
  steps_look task halved (step ∷ steps) between [] are = absurd are
  steps_look task halved (step ∷ steps) between (s ∷ stages) are =
      λ i. step_looks task halved step between (types_after net.types halved step between) s are.0 i
      ++ steps_look task halved steps (types_after net.types halved step between) stages are.1 i

  looks_of_cell : (at : ℕ) (pipe : PipeForm) (task lane : ℕ) (d : DriverState) → IsDriverOf net at pipe task lane d → All KnowsParts d.stages → All IsOfCell (flat_map filter_note_of_stage d.stages)
  looks_of_cell at pipe task lane d is knows =
      let front = front_stages pipe.steps d.stages in
      let rest = step_stages pipe.steps d.stages in
      let all : front ++ rest ≡ d.stages = take-append-drop (length d.stages - length pipe.steps) d.stages in
      subst (λ (ss : List Stage). All IsOfCell (flat_map filter_note_of_stage ss)) all
      (subst (All IsOfCell) (sym (flat_map-append filter_note_of_stage front rest))
      (All-append IsOfCell (flat_map filter_note_of_stage front) (flat_map filter_note_of_stage rest)
      (fronts_of (net.types at).taken (scan_filters net.layout pipe) front is.front (All-front KnowsParts front rest (subst (All KnowsParts) (sym all) knows)))
      (subst (All IsOfCell) (sym (steps_look task (net.types at).halved pipe.steps (net.types at).taken rest is.stages)) (All-nil IsOfCell))))

  parts_of_cell : (at task : ℕ) (on : List Pair) (place : ℕ) (fs : List DynamicFilter) (owns : List BuildFilterState) → ArePartsFor net at task on place fs owns
      → All IsOfCell (map note_of_build_filter owns)
  parts_of_cell at task on place [] [] are = All-nil IsOfCell
  parts_of_cell at task on place [] (own ∷ owns) are = absurd are
  parts_of_cell at task on place (f ∷ fs) [] are = absurd are
  parts_of_cell at task on place (f ∷ fs) (own ∷ owns) are =
      All-cons IsOfCell (note_of_build_filter own) (map note_of_build_filter owns) are.0.cell (parts_of_cell at task on (place + 1) fs owns are.1)

  result_of_cell : (target : Target) → IsResultTarget target → All IsOfCell (map note_of_build_filter (filters_of target))
  result_of_cell (Build b) is = absurd is
  result_of_cell (Put put) is = absurd is
  result_of_cell (Deal deal) is = absurd is
  result_of_cell (Result own) is = All-nil IsOfCell

  target_of_cell : (at task : ℕ) (form : TargetForm) (target : Target) → IsTargetFor net at task form target → All IsOfCell (map note_of_build_filter (filters_of target))
  target_of_cell at task result target is = result_of_cell target is
  target_of_cell at task (cell on) target is =
      subst (λ (t : Target). All IsOfCell (map note_of_build_filter (filters_of t))) (sym is.is) (parts_of_cell at task on.on 0 on.filters is.build.filters is.filters)
  target_of_cell at task (side other) target is = subst (λ (t : Target). All IsOfCell (map note_of_build_filter (filters_of t))) (sym is.is) (All-nil IsOfCell)
  target_of_cell at task (readers output other) target is = subst (λ (t : Target). All IsOfCell (map note_of_build_filter (filters_of t))) (sym is.is) (All-nil IsOfCell)
  target_of_cell at task (takers other) target is = subst (λ (t : Target). All IsOfCell (map note_of_build_filter (filters_of t))) (sym is.is) (All-nil IsOfCell)

  module _ (drivers : List DriverState) (are : AreDriversOf net drivers) (covered : (number : ℕ) → number < length drivers → IsCovered net.layout number) where
    filter_looks_of_cells : All WasTakenApart drivers → All IsOfCell (filter_looks_of drivers)
    filter_looks_of_cells apart = all_flat IsOfCell (λ (d : DriverState). flat_map filter_note_of_stage d.stages) drivers (λ number d there.
        let k = covered number (slice_get_within drivers number d there) in
        let h = are.each k.at k.pipe k.is k.task k.lane k.has_task k.has_lane in
        let same : h.driver ≡ d = same_Some h.driver d (sym h.there ∙ ap (slice_get drivers) k.same ∙ there) in
        looks_of_cell k.at k.pipe k.task k.lane d (subst (IsDriverOf net k.at k.pipe k.task k.lane) same h.is) (all_at WasTakenApart drivers number d apart there).knows)

    filter_builds_of_cells : All IsOfCell (filter_builds_of drivers)
    filter_builds_of_cells = all_flat IsOfCell (λ (d : DriverState). map note_of_build_filter (filters_of d.target)) drivers (λ number d there.
        let k = covered number (slice_get_within drivers number d there) in
        let h = are.each k.at k.pipe k.is k.task k.lane k.has_task k.has_lane in
        let same : h.driver ≡ d = same_Some h.driver d (sym h.there ∙ ap (slice_get drivers) k.same ∙ there) in
        target_of_cell k.at k.task k.pipe.target d.target (subst (IsDriverOf net k.at k.pipe k.task k.lane) same h.is).target)

    -- notes of drivers with the same bell are of one cell
    of_filter_cells : All WasTakenApart drivers → AreOfFilterCells (filter_looks_of drivers) (filter_builds_of drivers)
    of_filter_cells apart =
        all_pairs IsOfCell (λ (look build : FilterCellNote). build.bell ≡ look.bell → part_names build ≡ part_names look) (filter_looks_of drivers) (filter_builds_of drivers)
        (λ look build own other same. other ∙ ap net.links.parts same ∙ sym own) (filter_looks_of_cells apart) filter_builds_of_cells

    -- and so are all notes that were kept
    pub kept_of_filter_cells : (old new : Notes) → All WasTakenApart drivers → AreNone old → HaveKept old new drivers → AreOfFilterCells new.filter_looks.items new.filter_builds.items
    kept_of_filter_cells old new apart none kept =
        let looks : new.filter_looks.items ≡ filter_looks_of drivers = kept.filter_looks ∙ ap (λ (ns : List FilterCellNote). ns ++ filter_looks_of drivers) none.filter_looks in
        let builds : new.filter_builds.items ≡ filter_builds_of drivers = kept.filter_builds ∙ ap (λ (ns : List FilterCellNote). ns ++ filter_builds_of drivers) none.filter_builds in
        subst (λ (ls : List FilterCellNote). AreOfFilterCells ls new.filter_builds.items) (sym looks) (subst (AreOfFilterCells (filter_looks_of drivers)) (sym builds) (of_filter_cells apart))
