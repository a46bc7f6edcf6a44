-- Pipes that stand so are a run that something stopped.
use Rattle.std.proofs.Common.{ℕ, [], ◌∷◌, refl}
use Rattle.operator_core.specs.declared.operator.Operator.{Ghosts}
use Rattle.operator_core.specs.Calls.{IsLawful}
use Rattle.plan_trees.specs.TreeTypes.{types_of}
use Rattle.plan_run_laws.specs.Stages.{first_half}
use Rattle.plan_run_laws.specs.RunPlans.{RunPlan, scan, values, remote, step, halves, join, union, tree_of_run}
use Rattle.plan_run_laws.specs.Spreads.{Tables}
use Rattle.plan_run_laws.specs.Stops.{AreOpen, Stops}
use Rattle.stage_meanings.specs.Pipelines.{NodeStage, at_node}
use Rattle.pipe_laws.specs.Lanes.{Noted, notes_of_lanes, other_notes}
use Rattle.pipe_laws.proofs.LaneLemmas.{halves_open, lanes_open}
use Rattle.pipe_laws.specs.Pipes.{IsHalfPipeOf, IsPipeOf, PipeState, Stands, stopped}

module _ {S : Type 0} (g : Ghosts S) (laws : IsLawful g) where
  pub pipe_open : (n : ℕ) (run : RunPlan) (p : PipeState S) → IsPipeOf g n run p → AreOpen [] n p.drivers run (notes_of_lanes run p.notes) p.took p.gave p.ended p.done
  pipe_open n run p is = lanes_open g laws n p.drivers run p.notes p.stages p.took p.gave p.ended p.done is.lanes

  pub half_pipe_open : (n : ℕ) (run : RunPlan) (half : NodeStage) (p : PipeState S) → IsHalfPipeOf g n run half p
      → AreOpen (half.stage ∷ []) n p.drivers run (notes_of_lanes run p.notes) p.took p.gave p.ended p.done
  half_pipe_open n run half p is = halves_open g laws n p.drivers run p.notes half p.stages p.took p.gave p.ended p.done is.halves

  module _ (pipes : ℕ → PipeState S) (tables : Tables) where
    pub stops : (at n : ℕ) (run : RunPlan) (notes : ℕ → ℕ → Noted) → Stands g pipes tables at n run notes
        → Stops tables n (pipes at).drivers run (notes_of_lanes run notes) (pipes at).took (pipes at).ended
    stops at n (scan id table columns types) notes stands = (refl, stands)
    stops at n (values id types rows) notes stands = (refl, stands)
    stops at n (remote id output m input) notes (j, is, below, passed) =
        (stopped input (pipes j), refl, stops j m input (pipes j).notes below, pipe_open m input (pipes j) is, passed)
    stops at n (join id kind on left right) notes (j, is, below, known, rest) =
        (stopped right (pipes j), stops j n right (pipes j).notes below, pipe_open n right (pipes j) is, known, stops at n left (λ k d. other_notes (notes k d)) rest)
    stops at n (step id s input) notes stands = (stands.0, stops at n input notes stands.1)
    stops at n (halves id source output m h input) notes (j, half, alone, is, below, passed) =
        (stopped input (pipes j), refl, alone, stops j m input (pipes j).notes below, half_pipe_open m input (at_node half (first_half (types_of (tree_of_run input)) h)) (pipes j) is, passed)
    stops at n (union id left right) notes (i, j, first, left_below, second, right_below, passed) = (
      stopped left (pipes i),
      stopped right (pipes j),
      refl,
      stops i n left (pipes i).notes left_below,
      pipe_open n left (pipes i) first,
      stops j n right (pipes j).notes right_below,
      pipe_open n right (pipes j) second,
      passed,
    )
