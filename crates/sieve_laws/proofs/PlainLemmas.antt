-- Pipes that lost nothing stand as those do that may have lost rows.
use Rattle.std.proofs.Common.{◌≡◌, ℕ, List, [], sym, subst, append-nil}
use Rattle.operator_core.specs.declared.operator.Operator.{Ghosts}
use Rattle.operator_core.specs.Rows.{Row}
use Rattle.bag_laws.specs.Gather.{gather}
use Rattle.bag_laws.proofs.BucketLemmas.{sits-nil}
use Rattle.bag_laws.proofs.GatherLemmas.{gather-agree}
use Rattle.plan_trees.specs.Allowed.{scanned, strict, width_of}
use Rattle.plan_trees.specs.TreeTypes.{types_of}
use Rattle.column_origins.specs.Origins.{left_column}
use Rattle.plan_run_laws.specs.Nets.{Lanes, of_tasks}
use Rattle.plan_run_laws.specs.RunPlans.{RunPlan, tree_of_run, scan, values, remote, step, halves, join, union}
use Rattle.plan_run_laws.specs.Spreads.{Tables}
use Rattle.plan_run_laws.specs.Stops.{AllSet, Hop}
use Rattle.plan_run_laws.specs.Wholes.{longer}
use Rattle.pipe_laws.specs.Lanes.{Noted, other_notes}
use Rattle.pipe_laws.specs.Pipes.{PipeState, Stands}
use Rattle.lost_row_laws.specs.Sieves.{Sieve, is_lost, over_input, under}
use Rattle.sieve_laws.specs.LosingPipes.{RightsTyped, StandsLosing}

with_none : (n w : ℕ) (took : Lanes) → gather n (of_tasks w took) ≡ gather n (of_tasks w (longer took (λ k d. [])))
with_none n w took =
    gather-agree n (of_tasks w took) (of_tasks w (longer took (λ k d. [])))
    (λ k lt. gather-agree w (took k) (longer took (λ k d. []) k) (λ d less. sym (append-nil (took k d))))

module _ {S : Type 0} (g : Ghosts S) (pipes : ℕ → PipeState S) (tables : Tables) where
  pub lost_nothing : (sieves : List Sieve) (at n : ℕ) (run : RunPlan) (notes : ℕ → ℕ → Noted) (stands : Stands g pipes tables at n run notes)
      → RightsTyped g pipes tables at n run notes stands → StandsLosing g pipes (λ id. []) tables sieves at n run notes
  lost_nothing sieves at n (scan id table columns types) notes stands typed = (
    λ k d. [],
    subst (λ (rows : List Row). Hop (scanned tables table columns) rows (AllSet n (pipes at).drivers (pipes at).ended) (Unit {0})) (with_none n (pipes at).drivers (pipes at).took) stands,
    λ k d lt less. sits-nil (is_lost strict sieves types),
  )
  lost_nothing sieves at n (values id types rows) notes stands typed = stands
  lost_nothing sieves at n (remote id output m input) notes (j, is, below, passed) typed = (j, is, lost_nothing sieves j m input (pipes j).notes below typed, passed)
  lost_nothing sieves at n (join id kind on left right) notes (j, is, below, known, rest) typed = (
    j,
    is,
    lost_nothing [] j n right (pipes j).notes below typed.1,
    known,
    λ a held. absurd cc,
    typed.0,
    lost_nothing (over_input (left_column kind (width_of (tree_of_run left))) sieves) at n left (λ k d. other_notes (notes k d)) rest typed.2,
  )
  lost_nothing sieves at n (step id s input) notes stands typed = (stands.0, lost_nothing (under (types_of (tree_of_run input)) s sieves) at n input notes stands.1 typed)
  lost_nothing sieves at n (halves id source output m h input) notes (j, half, alone, is, below, passed) typed =
      (j, half, alone, is, lost_nothing [] j m input (pipes j).notes below typed, passed)
  lost_nothing sieves at n (union id left right) notes (i, j, first, left_below, second, right_below, passed) typed =
      (i, j, first, lost_nothing [] i n left (pipes i).notes left_below typed.0, second, lost_nothing [] j n right (pipes j).notes right_below typed.1, passed)
