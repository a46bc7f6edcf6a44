-- Pipes that stand so are a run that something stopped, whose scans lost rows.
use Rattle.std.proofs.Common.{ℕ, List, [], ◌++◌, refl}
use Rattle.sql_values.specs.declared.types.SqlType.{SqlType}
use Rattle.operator_core.specs.declared.operator.Operator.{Ghosts}
use Rattle.operator_core.specs.Rows.{Row}
use Rattle.operator_core.specs.Calls.{IsLawful}
use Rattle.bag_laws.specs.Buckets.{Sits}
use Rattle.bag_laws.proofs.BucketLemmas.{sits-weaker}
use Rattle.plan_trees.specs.Allowed.{skipping, strict, width_of}
use Rattle.plan_trees.specs.TreeTypes.{types_of}
use Rattle.column_origins.specs.Origins.{left_column}
use Rattle.plan_run_laws.specs.Stages.{first_half}
use Rattle.plan_run_laws.specs.RunPlans.{RunPlan, tree_of_run, scan, values, remote, step, halves, join, union}
use Rattle.plan_run_laws.specs.Spreads.{Tables}
use Rattle.pipe_laws.specs.Pipelines.{at_node}
use Rattle.pipe_laws.specs.Lanes.{Noted, notes_of_lanes, other_notes}
use Rattle.pipe_laws.specs.Pipes.{PipeState, stopped}
use Rattle.pipe_laws.proofs.StandLemmas.{half_pipe_open, pipe_open}
use Rattle.lost_row_laws.specs.Sieves.{Sieve, fits_in, is_held, is_lost, over_input, under}
use Rattle.lost_row_laws.specs.Stops.{StopsLosing}
use Rattle.lost_row_laws.proofs.SieveLemmas.{and_second}
use Rattle.sieve_laws.specs.LosingPipes.{StandsLosing}

-- what may be lost where no row may fail may be lost anyway
held_anyway : (sieves : List Sieve) (types : List SqlType) (rows : List Row) → Sits (is_lost strict sieves types) rows → Sits (is_lost skipping sieves types) rows
held_anyway sieves types rows held =
    sits-weaker (is_lost strict sieves types) (is_lost skipping sieves types) (λ row may. and_second (fits_in strict types row) (is_held sieves row) may) rows held

module _ {S : Type 0} (g : Ghosts S) (laws : IsLawful g) where
  module _ (pipes : ℕ → PipeState S) (own : ℕ → List Sieve) (tables : Tables) where
    pub stops_losing : (sieves : List Sieve) (at n : ℕ) (run : RunPlan) (notes : ℕ → ℕ → Noted) → StandsLosing g pipes own tables sieves at n run notes
        → StopsLosing tables sieves n (pipes at).drivers run (notes_of_lanes run notes) (pipes at).took (pipes at).ended
    stops_losing sieves at n (scan id table columns types) notes stands =
        (refl, stands.0, stands.1, λ k d lt less. held_anyway sieves types (stands.0 k d) (stands.2 k d lt less))
    stops_losing sieves at n (values id types rows) notes stands = (refl, stands)
    stops_losing sieves at n (remote id output m input) notes (j, is, below, passed) =
        (stopped input (pipes j), refl, stops_losing sieves j m input (pipes j).notes below, pipe_open g laws m input (pipes j) is, passed)
    stops_losing sieves at n (step id s input) notes stands = (stands.0, stops_losing (under (types_of (tree_of_run input)) s sieves) at n input notes stands.1)
    stops_losing sieves at n (join id kind on left right) notes (j, is, below, known, sure, fit, rest) = (
      own id,
      stopped right (pipes j),
      stops_losing [] j n right (pipes j).notes below,
      pipe_open g laws n right (pipes j) is,
      known,
      sure,
      stops_losing (over_input (left_column kind (width_of (tree_of_run left))) (own id ++ sieves)) at n left (λ k d. other_notes (notes k d)) rest,
    )
    stops_losing sieves at n (halves id source output m h input) notes (j, half, alone, is, below, passed) =
        (stopped input (pipes j), refl, alone, stops_losing [] j m input (pipes j).notes below, half_pipe_open g laws m input (at_node half (first_half (types_of (tree_of_run input)) h)) (pipes j) is, passed)
    stops_losing sieves at n (union id left right) notes (i, j, first, left_below, second, right_below, passed) = (
      stopped left (pipes i),
      stopped right (pipes j),
      refl,
      stops_losing [] i n left (pipes i).notes left_below,
      pipe_open g laws n left (pipes i) first,
      stops_losing [] j n right (pipes j).notes right_below,
      pipe_open g laws n right (pipes j) second,
      passed,
    )
