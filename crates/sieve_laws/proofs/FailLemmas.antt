-- Of pipes of which one failed, the plan's tree may fail with this kind, whatever rows without a partner the scans lost.
use Rattle.std.proofs.Common.{◌≡◌, ◌⊎◌, inl, inr, ℕ, ◌<◌, List, [], ◌++◌, subst}
use Rattle.sql_values.specs.declared.fail.Fail.{Fail}
use Rattle.operator_core.specs.declared.operator.Operator.{Ghosts}
use Rattle.operator_core.specs.Calls.{IsLawful}
use Rattle.plan_trees.specs.Allowed.{width_of}
use Rattle.plan_trees.specs.TreeTypes.{types_of}
use Rattle.column_origins.specs.Origins.{left_column}
use Rattle.plan_run_laws.specs.Stages.{first_half}
use Rattle.pipe_laws.proofs.FailLemmas.{half_calm}
use Rattle.plan_run_laws.specs.RunPlans.{RunPlan, tree_of_run, scan, values, remote, step, halves, join, union}
use Rattle.plan_run_laws.specs.Spreads.{Tables}
use Rattle.pipe_laws.specs.Pipelines.{NodeStage, at_node}
use Rattle.pipe_laws.specs.Lanes.{NeverFails, Noted, notes_of_lanes, other_notes}
use Rattle.pipe_laws.specs.Pipes.{HasFailing, IsHalfPipeOf, IsPipeOf, PipeState, stopped}
use Rattle.lost_row_laws.specs.Faults.{FailedLosing}
use Rattle.lost_row_laws.specs.Sieves.{Sieve, over_input, under}
use Rattle.sieve_laws.specs.LosingPipes.{IsBelowLosing, StandsLosing}
use Rattle.sieve_laws.proofs.LaneFailLemmas.{losing_halves_failed, losing_lanes_failed}
use Rattle.sieve_laws.proofs.StandLemmas.{stops_losing}

module _ {S : Type 0} (g : Ghosts S) (laws : IsLawful g) (pipes : ℕ → PipeState S) (own : ℕ → List Sieve) (tables : Tables) (node : ℕ) (kind : Fail) where
  -- the pipe at a place failed, below which the others stand
  abbrev FailedAt : ℕ → ℕ → RunPlan → Type 0
  FailedAt at n run = FailedLosing tables n (pipes at).drivers run (notes_of_lanes run (pipes at).notes) (pipes at).took (pipes at).ended node kind

  pub pipe_failed : (sieves : List Sieve) (at n : ℕ) (run : RunPlan) → IsPipeOf g n run (pipes at) → StandsLosing g pipes own tables sieves at n run (pipes at).notes → HasFailing g (pipes at) node kind → FailedAt at n run
  pipe_failed sieves at n run is stands f =
      losing_lanes_failed g laws tables n (pipes at).drivers (pipes at).took (pipes at).ended node kind f.task f.driver (subst (λ (m : ℕ). f.task < m) is.tasks f.in_tasks) f.in_drivers f.place f.operator
      sieves run (pipes at).notes (pipes at).stages (pipes at).gave (pipes at).done is.lanes (stops_losing g laws pipes own tables sieves at n run (pipes at).notes stands) f.there f.is f.fails

  half_pipe_failed : (sieves : List Sieve) (at n : ℕ) (run : RunPlan) (half : NodeStage) → NeverFails half.stage → IsHalfPipeOf g n run half (pipes at) → StandsLosing g pipes own tables sieves at n run (pipes at).notes
      → HasFailing g (pipes at) node kind → FailedAt at n run
  half_pipe_failed sieves at n run half never is stands f =
      losing_halves_failed g laws tables n (pipes at).drivers (pipes at).took (pipes at).ended node kind f.task f.driver (subst (λ (m : ℕ). f.task < m) is.tasks f.in_tasks) f.in_drivers f.place f.operator
      sieves run (pipes at).notes half (pipes at).stages (pipes at).gave (pipes at).done never is.halves (stops_losing g laws pipes own tables sieves at n run (pipes at).notes stands) f.there f.is f.fails

  module _ (place : ℕ) (f : HasFailing g (pipes place) node kind) where
    here : (j : ℕ) → place ≡ j → HasFailing g (pipes j) node kind
    here j same = subst (λ (i : ℕ). HasFailing g (pipes i) node kind) same f

    pub below_failed : (sieves : List Sieve) (at n : ℕ) (run : RunPlan) (notes : ℕ → ℕ → Noted) (stands : StandsLosing g pipes own tables sieves at n run notes) → IsBelowLosing g pipes own tables sieves place at n run notes stands
        → FailedLosing tables n (pipes at).drivers run (notes_of_lanes run notes) (pipes at).took (pipes at).ended node kind
    below_failed sieves at n (scan id table columns types) notes stands is = absurd is
    below_failed sieves at n (values id types rows) notes stands is = absurd is
    below_failed sieves at n (remote id output m input) notes (j, pipe, below, passed) (inl same) = (stopped input (pipes j), pipe_failed sieves j m input pipe below (here j same))
    below_failed sieves at n (remote id output m input) notes (j, pipe, below, passed) (inr is) = (stopped input (pipes j), below_failed sieves j m input (pipes j).notes below is)
    below_failed sieves at n (step id s input) notes stands is = inr (below_failed (under (types_of (tree_of_run input)) s sieves) at n input notes stands.1 is)
    below_failed sieves at n (join id how on left right) notes (j, pipe, below, known, sure, fit, rest) (inl (inl same)) = inr (stopped right (pipes j), pipe_failed [] j n right pipe below (here j same))
    below_failed sieves at n (join id how on left right) notes (j, pipe, below, known, sure, fit, rest) (inl (inr is)) = inr (stopped right (pipes j), below_failed [] j n right (pipes j).notes below is)
    below_failed sieves at n (join id how on left right) notes (j, pipe, below, known, sure, fit, rest) (inr is) = inl (below_failed (over_input (left_column how (width_of (tree_of_run left))) (own id ++ sieves)) at n left (λ k d. other_notes (notes k d)) rest is)
    below_failed sieves at n (halves id source output m h input) notes (j, half, alone, pipe, below, passed) (inl same) =
        inr (stopped input (pipes j), half_pipe_failed [] j m input (at_node half (first_half (types_of (tree_of_run input)) h)) (half_calm (types_of (tree_of_run input)) h) pipe below (here j same))
    below_failed sieves at n (halves id source output m h input) notes (j, half, alone, pipe, below, passed) (inr is) =
        inr (stopped input (pipes j), below_failed [] j m input (pipes j).notes below is)
    below_failed sieves at n (union id left right) notes (i, j, first, left_below, second, right_below, passed) (inl (inl same)) =
        (stopped left (pipes i), inl (pipe_failed [] i n left first left_below (here i same)))
    below_failed sieves at n (union id left right) notes (i, j, first, left_below, second, right_below, passed) (inl (inr is)) =
        (stopped left (pipes i), inl (below_failed [] i n left (pipes i).notes left_below is))
    below_failed sieves at n (union id left right) notes (i, j, first, left_below, second, right_below, passed) (inr (inl same)) =
        (stopped right (pipes j), inr (pipe_failed [] j n right second right_below (here j same)))
    below_failed sieves at n (union id left right) notes (i, j, first, left_below, second, right_below, passed) (inr (inr is)) =
        (stopped right (pipes j), inr (below_failed [] j n right (pipes j).notes right_below is))

    pub failed_in : (sieves : List Sieve) (root n : ℕ) (run : RunPlan) → IsPipeOf g n run (pipes root) → (stands : StandsLosing g pipes own tables sieves root n run (pipes root).notes)
        → (place ≡ root) ⊎ IsBelowLosing g pipes own tables sieves place root n run (pipes root).notes stands → FailedAt root n run
    failed_in sieves root n run is stands (inl same) = pipe_failed sieves root n run is stands (here root same)
    failed_in sieves root n run is stands (inr below) = below_failed sieves root n run (pipes root).notes stands below
