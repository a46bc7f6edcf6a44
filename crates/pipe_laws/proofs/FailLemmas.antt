-- Of pipes of which one failed, the plan's tree may fail with this kind.
use Rattle.std.proofs.Common.{◌≡◌, ◌⊎◌, inl, inr, ℕ, ◌<◌, List, subst}
use Rattle.sql_values.specs.declared.fail.Fail.{Fail}
use Rattle.sql_values.specs.declared.types.SqlType.{SqlType}
use Rattle.operator_core.specs.declared.operator.Operator.{Ghosts}
use Rattle.operator_core.specs.Calls.{IsLawful}
use Rattle.plan_trees.specs.TreeTypes.{types_of}
use Rattle.plan_run_laws.specs.Faults.{Failed}
use Rattle.plan_run_laws.specs.HalvedSteps.{HalvedForm}
use Rattle.plan_run_laws.specs.HalvedSteps as halved
use Rattle.plan_run_laws.specs.Stages.{first_half}
use Rattle.plan_run_laws.specs.RunPlans.{RunPlan, scan, values, remote, step, halves, join, union, tree_of_run}
use Rattle.plan_run_laws.specs.Spreads.{Tables}
use Rattle.stage_meanings.specs.Pipelines.{NodeStage, at_node}
use Rattle.pipe_laws.specs.Lanes.{NeverFails, Noted, notes_of_lanes, other_notes}
use Rattle.pipe_laws.proofs.LaneFailLemmas.{halves_failed, lanes_failed}
use Rattle.pipe_laws.specs.Pipes.{HasFailing, IsBelow, IsHalfPipeOf, IsPipeOf, PipeState, Stands, stopped}
use Rattle.pipe_laws.proofs.StandLemmas.{stops}

pub half_calm : (types : List SqlType) (h : HalvedForm) → NeverFails (first_half types h)
half_calm types (halved.aggregate keys calls) kind rows never = never
half_calm types h kind rows never = never

module _ {S : Type 0} (g : Ghosts S) (laws : IsLawful g) (pipes : ℕ → PipeState S) (tables : Tables) (node : ℕ) (kind : Fail) where
  -- the pipe at a place failed, below which the others stand
  abbrev FailedAt : ℕ → ℕ → RunPlan → Type 0
  FailedAt at n run = Failed tables n (pipes at).drivers run (notes_of_lanes run (pipes at).notes) (pipes at).took (pipes at).ended node kind

  pub pipe_failed : (at n : ℕ) (run : RunPlan) → IsPipeOf g n run (pipes at) → Stands g pipes tables at n run (pipes at).notes → HasFailing g (pipes at) node kind → FailedAt at n run
  pipe_failed at n run is stands f =
      lanes_failed g laws tables n (pipes at).drivers (pipes at).took (pipes at).ended node kind f.task f.driver (subst (λ (m : ℕ). f.task < m) is.tasks f.in_tasks) f.in_drivers f.place f.operator
      run (pipes at).notes (pipes at).stages (pipes at).gave (pipes at).done is.lanes (stops g laws pipes tables at n run (pipes at).notes stands) f.there f.is f.fails

  half_pipe_failed : (at n : ℕ) (run : RunPlan) (half : NodeStage) → NeverFails half.stage → IsHalfPipeOf g n run half (pipes at) → Stands g pipes tables at n run (pipes at).notes
      → HasFailing g (pipes at) node kind → FailedAt at n run
  half_pipe_failed at n run half never is stands f =
      halves_failed g laws tables n (pipes at).drivers (pipes at).took (pipes at).ended node kind f.task f.driver (subst (λ (m : ℕ). f.task < m) is.tasks f.in_tasks) f.in_drivers f.place f.operator
      run (pipes at).notes half (pipes at).stages (pipes at).gave (pipes at).done never is.halves (stops g laws pipes tables at n run (pipes at).notes stands) f.there f.is f.fails

  module _ (place : ℕ) (f : HasFailing g (pipes place) node kind) where
    here : (j : ℕ) → place ≡ j → HasFailing g (pipes j) node kind
    here j same = subst (λ (i : ℕ). HasFailing g (pipes i) node kind) same f

    pub below_failed : (at n : ℕ) (run : RunPlan) (notes : ℕ → ℕ → Noted) (stands : Stands g pipes tables at n run notes) → IsBelow g pipes tables place at n run notes stands
        → Failed tables n (pipes at).drivers run (notes_of_lanes run notes) (pipes at).took (pipes at).ended node kind
    below_failed at n (scan id table columns types) notes stands is = absurd is
    below_failed at n (values id types rows) notes stands is = absurd is
    below_failed at n (remote id output m input) notes (j, pipe, below, passed) (inl same) = (stopped input (pipes j), pipe_failed j m input pipe below (here j same))
    below_failed at n (remote id output m input) notes (j, pipe, below, passed) (inr is) = (stopped input (pipes j), below_failed j m input (pipes j).notes below is)
    below_failed at n (step id s input) notes stands is = inr (below_failed at n input notes stands.1 is)
    below_failed at n (halves id source output m h input) notes (j, half, alone, pipe, below, passed) (inl same) =
        inr (stopped input (pipes j), half_pipe_failed j m input (at_node half (first_half (types_of (tree_of_run input)) h)) (half_calm (types_of (tree_of_run input)) h) pipe below (here j same))
    below_failed at n (halves id source output m h input) notes (j, half, alone, pipe, below, passed) (inr is) =
        inr (stopped input (pipes j), below_failed j m input (pipes j).notes below is)
    below_failed at n (join id how on left right) notes (j, pipe, below, known, rest) (inl (inl same)) = inr (stopped right (pipes j), pipe_failed j n right pipe below (here j same))
    below_failed at n (join id how on left right) notes (j, pipe, below, known, rest) (inl (inr is)) = inr (stopped right (pipes j), below_failed j n right (pipes j).notes below is)
    below_failed at n (join id how on left right) notes (j, pipe, below, known, rest) (inr is) = inl (below_failed at n left (λ k d. other_notes (notes k d)) rest is)
    below_failed at n (union id left right) notes (i, j, first, left_below, second, right_below, passed) (inl (inl same)) =
        (stopped left (pipes i), inl (pipe_failed i n left first left_below (here i same)))
    below_failed at n (union id left right) notes (i, j, first, left_below, second, right_below, passed) (inl (inr is)) =
        (stopped left (pipes i), inl (below_failed i n left (pipes i).notes left_below is))
    below_failed at n (union id left right) notes (i, j, first, left_below, second, right_below, passed) (inr (inl same)) =
        (stopped right (pipes j), inr (pipe_failed j n right second right_below (here j same)))
    below_failed at n (union id left right) notes (i, j, first, left_below, second, right_below, passed) (inr (inr is)) =
        (stopped right (pipes j), inr (below_failed j n right (pipes j).notes right_below is))

    pub failed_in : (root n : ℕ) (run : RunPlan) → IsPipeOf g n run (pipes root) → (stands : Stands g pipes tables root n run (pipes root).notes)
        → (place ≡ root) ⊎ IsBelow g pipes tables place root n run (pipes root).notes stands → FailedAt root n run
    failed_in root n run is stands (inl same) = pipe_failed root n run is stands (here root same)
    failed_in root n run is stands (inr below) = below_failed root n run (pipes root).notes stands below
