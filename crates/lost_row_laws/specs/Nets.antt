-- Drivers of a run whose scans lost rows.
use Rattle.std.specs.Prelude.{ℕ, ◌<◌, List, [], ◌∷◌, ◌++◌}
use Rattle.bag_laws.specs.Buckets.{Sits}
use Rattle.bag_laws.specs.Gather.{gather}
use Rattle.bag_laws.specs.Laws.{TaskRows}
use Rattle.bag_laws.specs.Weights.{SameWeights}
use Rattle.plan_trees.specs.Allowed.{Mode, scanned, width_of}
use Rattle.plan_trees.specs.TreeTypes.{types_of}
use Rattle.column_origins.specs.Origins.{left_column}
use Rattle.plan_run_laws.specs.Nets.{Lanes, Pipe, Went, WentInto, of_tasks}
use Rattle.plan_run_laws.specs.Stages.{IsAlone, MayHave, first_half}
use Rattle.plan_run_laws.specs.RunPlans.{RunPlan, tree_of_run}
use Rattle.plan_run_laws.specs.RunPlans as plan
use Rattle.plan_run_laws.specs.Runs.{EdgePassed}
use Rattle.plan_run_laws.specs.Spreads.{Tables}
use Rattle.plan_run_laws.specs.Wholes.{longer}
use Rattle.lost_row_laws.specs.Runs.{AreAlone}
use Rattle.lost_row_laws.specs.Sieves.{Sieve, fits_in, is_lost, over_input, under}

-- what the sources of a node's pipeline gave its drivers, and all pipelines below, as `Below` says it but for scans: of a
-- scan a driver takes what its filters kept, and what they lost is held back by a sieve. The sieves of a join are for all
-- that its right side built in any task
abbrev pub BelowLosing : Mode → Tables → List Sieve → ℕ → ℕ → RunPlan → List TaskRows → Lanes → Type 0
BelowLosing mode tables sieves n w (plan.scan id table columns types) builds took =
    (lost : Lanes) × SameWeights (gather n (of_tasks w (longer took lost))) (scanned tables table columns)
    × ((k d : ℕ) → k < n → d < w → Sits (is_lost mode sieves types) (lost k d))
BelowLosing mode tables sieves n w (plan.values id types rows) builds took =
    (k : ℕ) → k < n → SameWeights (of_tasks w took k) rows
BelowLosing mode tables sieves n w (plan.remote id output m input) builds took =
    (p : Pipe) × BelowLosing mode tables sieves m p.drivers input p.builds p.took
    × Went mode m p.drivers input p.builds p.took p.gave
    × EdgePassed output m n (of_tasks p.drivers p.gave) (of_tasks w took)
BelowLosing mode tables sieves n w (plan.step id s input) builds took =
    MayHave s w × BelowLosing mode tables (under (types_of (tree_of_run input)) s sieves) n w input builds took
BelowLosing mode tables sieves n w (plan.halves id source output m h input) builds took =
    (p : Pipe) × IsAlone w × BelowLosing mode tables [] m p.drivers input p.builds p.took
    × WentInto (first_half (types_of (tree_of_run input)) h) mode m p.drivers input p.builds p.took p.gave
    × EdgePassed output m n (of_tasks p.drivers p.gave) (of_tasks w took)
BelowLosing mode tables sieves n w (plan.join id kind on left right) [] took = ⊥
BelowLosing mode tables sieves n w (plan.join id kind on left right) (build ∷ builds) took =
    (own : List Sieve) × (p : Pipe) × BelowLosing mode tables [] n p.drivers right p.builds p.took
    × Went mode n p.drivers right p.builds p.took p.gave
    × ((k : ℕ) → k < n → SameWeights (of_tasks p.drivers p.gave k) (build k))
    × AreAlone on (gather n (of_tasks p.drivers p.gave)) own
    × ((k : ℕ) → k < n → Sits (fits_in mode (types_of (tree_of_run right))) (of_tasks p.drivers p.gave k))
    × BelowLosing mode tables (over_input (left_column kind (width_of (tree_of_run left))) (own ++ sieves)) n w left builds took
BelowLosing mode tables sieves n w (plan.union id left right) builds took =
    (p : Pipe) × (q : Pipe)
    × BelowLosing mode tables [] n p.drivers left p.builds p.took
    × Went mode n p.drivers left p.builds p.took p.gave
    × BelowLosing mode tables [] n q.drivers right q.builds q.took
    × Went mode n q.drivers right q.builds q.took q.gave
    × ((k : ℕ) → k < n
    → SameWeights (of_tasks p.drivers p.gave k ++ of_tasks q.drivers q.gave k) (of_tasks w took k))
