-- Drivers of a net know each cell by its bell.
use Rattle.std.proofs.Common.{◌≡◌, ◌-◌, ◌<◌, ◌++◌, ◌∙◌, ℕ, List, [], ◌∷◌, length, refl, sym, subst, ap}
use Rattle.std.specs.Prelude.{All, flat_map, slice_get}
use Rattle.std.proofs.lemmas.Grind.{flat_map-append}
use Rattle.std.proofs.lemmas.List.{take-append-drop}
use Rattle.std.proofs.lemmas.List.Elements.{All-append, All-cons, All-nil}
use Rattle.std.proofs.lemmas.Option.{same_Some, slice_get_within}
use Rattle.sql_values.specs.declared.types.SqlType.{SqlType}
use Rattle.sql_values.specs.declared.relational.JoinKind.{JoinKind}
use Rattle.driver_loop.specs.Drivers.{DriverState}
use Rattle.driver_loop.specs.contracts.stage.StageOperator.TheImpl.{ghosts}
use Rattle.driver_loop.specs.declared.stage.Stage.{Stage}
use Rattle.driver_loop.specs.declared.stage.Stage.TheVariants.{Probe}
use Rattle.driver_loop.specs.declared.target.Target.{Target}
use Rattle.driver_loop.specs.declared.target.Target.TheVariants.{Build, Deal, Put, Result}
use Rattle.driver_net_laws.specs.Cells.{AreNamed, cell_of, cells_of, target_cell}
use Rattle.driver_net_laws.specs.Stages.{ProbesFor}
use Rattle.plan_layout.specs.declared.filters.PlacedFilter.{PlacedFilter}
use Rattle.plan_layout.specs.Filters.{scan_filters}
use Rattle.plan_layout.specs.Pipes.{PipeForm, StepForm, TargetForm, probe, result, cell, side, readers, takers}
use Rattle.driver_net_laws.specs.Nets.{AreDriversOf, AreInFront, AreStagesFor, IsDriverOf, IsResultTarget, IsStageFor, IsTargetFor, NetForm, front_stages, step_stages}
use Rattle.driver_net_laws.specs.Types.{types_after}
use Rattle.net_closing.specs.Covered.{IsCovered}
use Rattle.net_closing.proofs.PipeLemmas.{all_flat}

-- the cell of a stage is that of the stage as it was made
made_cells : (s : Stage) → cell_of (ghosts.as_made s) ≡ cell_of s
made_cells (Probe op types) = refl
made_cells s = refl

module _ (net : NetForm) where
  abbrev Holds : ℕ × ℕ → Type 0
  Holds c = c.1 ≡ net.links.names c.0

  apart_named : (s : Stage) → cell_of (ghosts.as_made s) ≡ [] → All Holds (cell_of s)
  apart_named s apart = subst (All Holds) (sym apart ∙ made_cells s) (All-nil Holds)

  probe_named : (s : Stage) (bell : ℕ) (kind : JoinKind) (on : List (ℕ × ℕ)) → ProbesFor net.links.names bell kind on (ghosts.as_made s) → All Holds (cell_of s)
  probe_named s bell kind on p =
      subst (All Holds) (sym (ap cell_of p.is) ∙ made_cells s)
      (All-cons Holds (p.op.bell, p.op.note.cell) [] (p.cell ∙ ap net.links.names (sym p.rings)) (All-nil Holds))

  stage_named : (task : ℕ) (halved : List SqlType) (step : StepForm) (between given : List SqlType) (s : Stage) → IsStageFor net task halved step between given (ghosts.as_made s) → All Holds (cell_of s)
  stage_named task halved (probe id kind on at) between given s is = probe_named s _ _ _ is.probes
  stage_named task halved step between given s is = apart_named s is.apart

  stages_named : (task : ℕ) (halved : List SqlType) (steps : List StepForm) (between : List SqlType) (stages : List Stage) → AreStagesFor net task halved steps between stages
      → All Holds (flat_map cell_of stages)
  stages_named task halved [] between stages are = subst (λ (ss : List Stage). All Holds (flat_map cell_of ss)) (sym are) (All-nil Holds)
  stages_named task halved (step ∷ steps) between [] are = absurd are
  stages_named task halved (step ∷ steps) between (s ∷ stages) are =
      All-append Holds (cell_of s) (flat_map cell_of stages) (stage_named task halved step between (types_after net.types halved step between) s are.0)
      (stages_named task halved steps (types_after net.types halved step between) stages are.1)

  front_named : (types : List SqlType) (fs : List PlacedFilter) (stages : List Stage) → AreInFront net types fs stages → All Holds (flat_map cell_of stages)
  front_named types [] stages are = subst (λ (ss : List Stage). All Holds (flat_map cell_of ss)) (sym are) (All-nil Holds)
  front_named types (f ∷ fs) [] are = absurd are
  front_named types (f ∷ fs) (s ∷ stages) are =
      All-append Holds (cell_of s) (flat_map cell_of stages) (apart_named s (ap cell_of are.0.is)) (front_named types fs stages are.1)

  result_named : (target : Target) → IsResultTarget target → All Holds (target_cell target)
  result_named (Build b) is = absurd is
  result_named (Put put) is = absurd is
  result_named (Deal deal) is = absurd is
  result_named (Result own) is = All-nil Holds

  target_named : (at task : ℕ) (form : TargetForm) (target : Target) → IsTargetFor net at task form target → All Holds (target_cell target)
  target_named at task result target is = result_named target is
  target_named at task (cell on) target is =
      subst (λ (t : Target). All Holds (target_cell t)) (sym is.is)
      (All-cons Holds (is.build.bell, is.build.note.cell) [] (is.cell ∙ ap net.links.names (sym is.rings)) (All-nil Holds))
  target_named at task (side other) target is = subst (λ (t : Target). All Holds (target_cell t)) (sym is.is) (All-nil Holds)
  target_named at task (readers output other) target is = subst (λ (t : Target). All Holds (target_cell t)) (sym is.is) (All-nil Holds)
  target_named at task (takers other) target is = subst (λ (t : Target). All Holds (target_cell t)) (sym is.is) (All-nil Holds)

  driver_named : (at : ℕ) (pipe : PipeForm) (task lane : ℕ) (d : DriverState) → IsDriverOf net at pipe task lane d → All Holds (cells_of d)
  driver_named at pipe task lane d is =
      let front = front_stages pipe.steps d.stages in
      let rest = step_stages pipe.steps d.stages in
      let all : front ++ rest ≡ d.stages = take-append-drop (length d.stages - length pipe.steps) d.stages in
      All-append Holds (flat_map cell_of d.stages) (target_cell d.target)
      (subst (λ (ss : List Stage). All Holds (flat_map cell_of ss)) all
      (subst (All Holds) (sym (flat_map-append cell_of front rest))
      (All-append Holds (flat_map cell_of front) (flat_map cell_of rest) (front_named (net.types at).taken (scan_filters net.layout pipe) front is.front)
      (stages_named task (net.types at).halved pipe.steps (net.types at).taken rest is.stages))))
      (target_named at task pipe.target d.target is.target)

  pub drivers_named : (drivers : List DriverState) → AreDriversOf net drivers → ((number : ℕ) → number < length drivers → IsCovered net.layout number) → AreNamed drivers
  drivers_named drivers are covered = (
    net.links.names,
    all_flat Holds cells_of drivers (λ number d there.
        let k = covered number (slice_get_within drivers number d there) in
        let h = are.each k.at k.pipe k.is k.task k.lane k.has_task k.has_lane in
        let same : h.driver ≡ d = same_Some h.driver d (sym h.there ∙ ap (slice_get drivers) k.same ∙ there) in
        subst (λ (e : DriverState). All Holds (cells_of e)) same (driver_named k.at k.pipe k.task k.lane h.driver h.is)),
  )
