-- The drivers of a pipe that runs a plan are lanes of it.
use Rattle.std.proofs.Common.{◌≡◌, ℕ, ◌<◌, List, [], ◌∷◌, Bool, Option, Some, false, sym, subst, arith}
use Rattle.std.specs.Prelude.{All, Contains, option_map, slice_get, unwrap_or}
use Rattle.std.proofs.lemmas.List.Elements.{All-contains_itself, Contains-append_left}
use Rattle.bag_laws.proofs.TopLemmas.{All-back}
use Rattle.sql_values.specs.declared.types.SqlType.{SqlType}
use Rattle.col_pages.specs.Fits.{AllFit}
use Rattle.operator_core.specs.Calls.{IsLawful}
use Rattle.operator_core.specs.Stages.{ToldInTurn, last_finished}
use Rattle.plan_trees.specs.TreeTypes.{types_of}
use Rattle.plan_run_laws.specs.RunPlans.{RunPlan, tree_of_run}
use Rattle.driver_net_laws.specs.Pipelines.{NodeStage, at_node}
use Rattle.driver_net_laws.specs.Operators.{types_of_source}
use Rattle.driver_loop.specs.Drivers.{DriverState}
use Rattle.driver_loop.specs.Ends.{has_ended}
use Rattle.driver_loop.specs.contracts.stage.StageOperator.TheImpl.{ghosts}
use Rattle.driver_loop.specs.declared.stage.Stage.{Stage}
use Rattle.driver_net_laws.specs.Lanes.{IsHalved, IsLane, Noted}
use Rattle.driver_net_laws.specs.Pipes.{GaveTyped, IsHalfPipeOf, IsPipeOf, PipeState, TookTyped}
use Rattle.driver_net_laws.specs.Made.{AreMadeFor, Behind, KnowSources, notes_known}
use Rattle.driver_net_laws.proofs.MadeLemmas.{half_gives, halved, lane, lane_gives}
use Rattle.plan_layout.specs.Pipes.{PipeForm, driver_number}
use Rattle.net_laws.specs.RunPipes.{Into, RunsAs}
use Rattle.driver_net_laws.specs.Nets.{AreDriversOf, HasDriver, NetForm, front_stages, step_stages}
use Rattle.driver_net_laws.specs.Settled.{AreSettled}
use Rattle.driver_net_laws.specs.States.{CameThrough, Flow, IsFlowOf, pipe_of}
use Rattle.net_laws.specs.Along.{Along, BuiltTyped, Follows, bells_in}
use Rattle.plan_run_laws.specs.HalvedSteps.{HalvedForm}
use Rattle.net_laws.specs.Halves.{half_stage, half_step, half_types}
use Rattle.net_laws.proofs.FrontLemmas.{behind, cut, done_behind, told_behind}
use Rattle.net_laws.proofs.TypeLemmas.{at_pipe}
use Rattle.net_laws.proofs.StageLemmas.{are_made, halves_made}
use Rattle.net_laws.proofs.NoteLemmas.{AlongLane, FollowsIn, P, along_all, contains_got, follow, knows, notes_behind, pipe_is, still}

module _ (net : NetForm) (drivers : List DriverState) (of : AreDriversOf net drivers) (settled : AreSettled net drivers) (flow : Flow) (flowed : IsFlowOf net.layout drivers flow)
    (n own : ℕ) (pipe : PipeForm) (is : slice_get net.layout own ≡ Some pipe) (tasks : pipe.tasks ≡ n) where
  abbrev pipes : ℕ → PipeState Stage
  pipes = P net drivers of settled flow flowed

  abbrev standing : PipeState Stage
  standing = pipe_of drivers flow own pipe

  same : pipes own ≡ standing
  same = pipe_is net drivers of settled flow flowed own pipe is

  has : (k d : ℕ) → k < n → d < pipe.drivers → HasDriver net drivers own pipe k d
  has k d in_task in_lane = of.each own pipe is k d (omega (arith, in_task, tasks)) in_lane

  contained : (k d : ℕ) (h : HasDriver net drivers own pipe k d) → Contains drivers h.driver
  contained k d h = contains_got drivers (driver_number pipe k d) h.driver h.there

  -- its stages in front of those for the steps, and these
  abbrev first : (k d : ℕ) (h : HasDriver net drivers own pipe k d) → List Stage
  first k d h = front_stages pipe.steps h.driver.stages

  abbrev rest : (k d : ℕ) (h : HasDriver net drivers own pipe k d) → List Stage
  rest k d h = step_stages pipe.steps h.driver.stages

  through : (k d : ℕ) → k < n → d < pipe.drivers → (h : HasDriver net drivers own pipe k d) → CameThrough pipe.steps h.driver (flow.came own k d) (flow.gave (driver_number pipe k d))
  through k d in_task in_lane h = flowed.through own pipe is k d (omega (arith, in_task, tasks)) in_lane h.driver h.there

  -- whether the last of those in front is finished, or its source has ended
  abbrev over : (k d : ℕ) (h : HasDriver net drivers own pipe k d) → Bool
  over k d h = last_finished ghosts (has_ended h.driver.source) (first k d h)

  turns : (k d : ℕ) (h : HasDriver net drivers own pipe k d) → ToldInTurn ghosts (over k d h) (rest k d h)
  turns k d h =
      told_behind pipe.steps h.driver.stages (has_ended h.driver.source)
      ((flowed.given (driver_number pipe k d) h.driver h.there).1.turns (still net drivers of settled flow flowed h.driver (contained k d h)).whole)

  each : (k d : ℕ) (h : HasDriver net drivers own pipe k d) → All (Contains h.driver.stages) (rest k d h)
  each k d h =
      All-back (Contains h.driver.stages) (first k d h) (rest k d h)
      (subst (All (Contains h.driver.stages)) (cut pipe.steps h.driver.stages) (All-contains_itself h.driver.stages))

  -- what is said of the driver is said of the lane
  of_lane : (k d : ℕ) (h : HasDriver net drivers own pipe k d) (Is : Noted → List Stage → Bool → Bool → Type 0)
      → Is (notes_known (rest k d h)) (rest k d h) (over k d h) (last_finished ghosts (over k d h) (rest k d h))
      → Is (standing.notes k d) (standing.stages k d) (standing.ended k d) (standing.done k d)
  of_lane k d h Is it =
      subst (λ (o : Option DriverState). Is (unwrap_or (option_map (λ (e : DriverState). notes_known (step_stages pipe.steps e.stages)) o) [])
      (unwrap_or (option_map (λ (e : DriverState). step_stages pipe.steps e.stages) o) [])
      (unwrap_or (option_map (λ (e : DriverState). last_finished ghosts (has_ended e.source) (front_stages pipe.steps e.stages)) o) false)
      (unwrap_or (option_map (λ (e : DriverState). last_finished ghosts (has_ended e.source) e.stages) o) false)) (sym h.there)
      (subst (Is (notes_known (rest k d h)) (rest k d h) (over k d h)) (done_behind pipe.steps h.driver.stages (has_ended h.driver.source)) it)

  took : (types : List SqlType) → TookTyped types n (pipes own) → (k d : ℕ) → k < n → d < pipe.drivers → AllFit types (flow.came own k d)
  took types typed k d in_task in_lane = subst (TookTyped types n) same typed k d in_task in_lane

  in_lanes : (d : ℕ) → d < (pipes own).drivers → d < pipe.drivers
  in_lanes d lt = subst (λ (p : PipeState Stage). d < p.drivers) same lt

  module _ (run : RunPlan) (r : RunsAs net.layout n run own pipe.drivers pipe.source pipe.steps) where
    made : (k d : ℕ) (h : HasDriver net drivers own pipe k d)
        → AreMadeFor net.links.names run (bells_in net.links k net.layout n run own pipe.drivers pipe.source pipe.steps r) (rest k d h) (types_of (tree_of_run run))
    made k d h = are_made net k of.typed n run own pipe.drivers pipe.source pipe.steps (rest k d h) (at_pipe net.layout own pipe is) r h.is.stages

    follows_in : (k d : ℕ) → k < n → d < pipe.drivers
        → AlongLane (FollowsIn net drivers of settled flow flowed k) net.layout n run own pipe.drivers pipe.source pipe.steps r ((pipes own).notes k d)
    follows_in k d in_task in_lane =
        let h = has k d in_task in_lane in
        let Goal : Noted → Type 0 = AlongLane (FollowsIn net drivers of settled flow flowed k) net.layout n run own pipe.drivers pipe.source pipe.steps r in
        subst (λ (p : PipeState Stage). Goal (p.notes k d)) (sym same)
        (of_lane k d h (λ notes stages ended done. Goal notes)
        (follow net drivers of settled flow flowed n run own pipe.drivers pipe.source pipe.steps r k in_task h.driver (contained k d h) (rest k d h) (types_of (tree_of_run run)) (behind pipe.steps h.driver.stages) (made k d h)))

    pub follows : Along (Follows pipes own n) net.layout n run own pipe.drivers pipe.source pipe.steps r (pipes own).notes
    follows =
        along_all (FollowsIn net drivers of settled flow flowed) net.layout n (pipes own).drivers run own pipe.drivers pipe.source pipe.steps r (pipes own).notes
        (λ k d in_task in_lane. follows_in k d in_task (in_lanes d in_lane))

    module _ (laws : IsLawful ghosts) (typed : TookTyped (types_of_source run) n (pipes own))
        (built : Along (BuiltTyped pipes n) net.layout n run own pipe.drivers pipe.source pipe.steps r (pipes own).notes) where
      know : (k d : ℕ) → k < n → (h : HasDriver net drivers own pipe k d)
          → KnowSources run (bells_in net.links k net.layout n run own pipe.drivers pipe.source pipe.steps r) (Contains h.driver.stages)
      know k d in_task h =
          knows net drivers of settled flow flowed n run own pipe.drivers pipe.source pipe.steps r (pipes own).notes built k in_task h.driver (contained k d h)

      lane_at : (k d : ℕ) → k < n → d < pipe.drivers
          → IsLane ghosts run (standing.notes k d) (standing.stages k d) (standing.took k d) (standing.gave k d) (standing.ended k d) (standing.done k d)
      lane_at k d in_task in_lane =
          let h = has k d in_task in_lane in
          of_lane k d h (λ notes stages ended done. IsLane ghosts run notes stages (standing.took k d) (standing.gave k d) ended done)
          (lane net.links.names laws run (bells_in net.links k net.layout n run own pipe.drivers pipe.source pipe.steps r) (types_of (tree_of_run run)) (rest k d h) (flow.came own k d) (flow.gave (driver_number pipe k d)) (over k d h)
          (through k d in_task in_lane h).rest (turns k d h) (Contains h.driver.stages) (know k d in_task h) (each k d h) (took (types_of_source run) typed k d in_task in_lane) (made k d h))

      pub lanes : IsPipeOf ghosts n run (pipes own)
      lanes = subst (IsPipeOf ghosts n run) (sym same) (record { tasks = tasks; lanes = lane_at })

      gave_at : (k d : ℕ) → k < n → d < pipe.drivers → AllFit (types_of (tree_of_run run)) (standing.gave k d)
      gave_at k d in_task in_lane =
          let h = has k d in_task in_lane in
          lane_gives net.links.names laws run (bells_in net.links k net.layout n run own pipe.drivers pipe.source pipe.steps r) (types_of (tree_of_run run)) (rest k d h) (flow.came own k d) (flow.gave (driver_number pipe k d)) (over k d h)
          (through k d in_task in_lane h).rest (turns k d h) (Contains h.driver.stages) (know k d in_task h) (each k d h) (took (types_of_source run) typed k d in_task in_lane) (made k d h)

      pub lanes_give : GaveTyped (types_of (tree_of_run run)) n (pipes own)
      lanes_give = subst (GaveTyped (types_of (tree_of_run run)) n) (sym same) gave_at

  -- with the first half of an operator behind the plan
  module _ (run : RunPlan) (half : HalvedForm) (r : Into (half_step half) (RunsAs net.layout n run) own pipe.drivers pipe.source pipe.steps) where
    abbrev at : NodeStage
    at = at_node r.0 (half_stage half (types_of (tree_of_run run)))

    half_made : (k d : ℕ) (h : HasDriver net drivers own pipe k d)
        → Behind (AreMadeFor net.links.names run (bells_in net.links k net.layout n run own pipe.drivers pipe.source r.1.0 r.1.2)) at (rest k d h) (half_types half (types_of (tree_of_run run)))
    half_made k d h = halves_made net k of.typed n run half own pipe.drivers pipe.source pipe.steps (rest k d h) (at_pipe net.layout own pipe is) r h.is.stages

    half_follows_in : (k d : ℕ) → k < n → d < pipe.drivers
        → AlongLane (FollowsIn net drivers of settled flow flowed k) net.layout n run own pipe.drivers pipe.source r.1.0 r.1.2 ((pipes own).notes k d)
    half_follows_in k d in_task in_lane =
        let h = has k d in_task in_lane in
        let e = half_made k d h in
        let Goal : Noted → Type 0 = AlongLane (FollowsIn net drivers of settled flow flowed k) net.layout n run own pipe.drivers pipe.source r.1.0 r.1.2 in
        subst (λ (p : PipeState Stage). Goal (p.notes k d)) (sym same)
        (of_lane k d h (λ notes stages ended done. Goal notes)
        (subst Goal (sym (notes_behind (rest k d h) e.before e.last e.are e.is.apart))
        (follow net drivers of settled flow flowed n run own pipe.drivers pipe.source r.1.0 r.1.2 k in_task h.driver (contained k d h) e.before e.between
        (λ s there. behind pipe.steps h.driver.stages s (subst (λ (ss : List Stage). Contains ss s) (sym e.are) (Contains-append_left e.before (e.last ∷ []) s there))) e.input)))

    pub half_follows : Along (Follows pipes own n) net.layout n run own pipe.drivers pipe.source r.1.0 r.1.2 (pipes own).notes
    half_follows =
        along_all (FollowsIn net drivers of settled flow flowed) net.layout n (pipes own).drivers run own pipe.drivers pipe.source r.1.0 r.1.2 (pipes own).notes
        (λ k d in_task in_lane. half_follows_in k d in_task (in_lanes d in_lane))

    module _ (laws : IsLawful ghosts) (typed : TookTyped (types_of_source run) n (pipes own))
        (built : Along (BuiltTyped pipes n) net.layout n run own pipe.drivers pipe.source r.1.0 r.1.2 (pipes own).notes) where
      half_know : (k d : ℕ) → k < n → (h : HasDriver net drivers own pipe k d)
          → KnowSources run (bells_in net.links k net.layout n run own pipe.drivers pipe.source r.1.0 r.1.2) (Contains h.driver.stages)
      half_know k d in_task h =
          knows net drivers of settled flow flowed n run own pipe.drivers pipe.source r.1.0 r.1.2 (pipes own).notes built k in_task h.driver (contained k d h)

      half_at : (k d : ℕ) → k < n → d < pipe.drivers
          → IsHalved ghosts run (standing.notes k d) at (standing.stages k d) (standing.took k d) (standing.gave k d) (standing.ended k d) (standing.done k d)
      half_at k d in_task in_lane =
          let h = has k d in_task in_lane in
          of_lane k d h (λ notes stages ended done. IsHalved ghosts run notes at stages (standing.took k d) (standing.gave k d) ended done)
          (halved net.links.names laws run (bells_in net.links k net.layout n run own pipe.drivers pipe.source r.1.0 r.1.2) (half_types half (types_of (tree_of_run run))) (rest k d h) (flow.came own k d) (flow.gave (driver_number pipe k d)) (over k d h)
          (through k d in_task in_lane h).rest (turns k d h) (Contains h.driver.stages) (half_know k d in_task h) (each k d h) (took (types_of_source run) typed k d in_task in_lane) at (half_made k d h))

      pub halves : IsHalfPipeOf ghosts n run at (pipes own)
      halves = subst (IsHalfPipeOf ghosts n run at) (sym same) (record { tasks = tasks; halves = half_at })

      half_gave : (k d : ℕ) → k < n → d < pipe.drivers → AllFit (half_types half (types_of (tree_of_run run))) (standing.gave k d)
      half_gave k d in_task in_lane =
          let h = has k d in_task in_lane in
          half_gives net.links.names laws run (bells_in net.links k net.layout n run own pipe.drivers pipe.source r.1.0 r.1.2) (half_types half (types_of (tree_of_run run))) (rest k d h) (flow.came own k d) (flow.gave (driver_number pipe k d)) (over k d h)
          (through k d in_task in_lane h).rest (turns k d h) (Contains h.driver.stages) (half_know k d in_task h) (each k d h) (took (types_of_source run) typed k d in_task in_lane) at (half_made k d h)

      pub halves_give : GaveTyped (half_types half (types_of (tree_of_run run))) n (pipes own)
      halves_give = subst (GaveTyped (half_types half (types_of (tree_of_run run))) n) (sym same) half_gave
