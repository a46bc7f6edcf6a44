-- Runs whose scans lost rows that have no partner in a join above.
use Rattle.std.specs.Prelude.{◌≡◌, ℕ, ◌<◌, List, [], ◌++◌, true, filter}
use Rattle.sql_values.specs.declared.value.Value.{Value}
use Rattle.sql_values.specs.declared.types.SqlType.{SqlType}
use Rattle.bag_laws.specs.Buckets.{Sits}
use Rattle.bag_laws.specs.Gather.{gather}
use Rattle.bag_laws.specs.Laws.{TaskRows}
use Rattle.bag_laws.specs.Weights.{SameWeights}
use Rattle.relation_laws.specs.Joins.{are_partners, join_of}
use Rattle.page_processor.specs.Typed.{AllTyped, IsTyped}
use Rattle.plan_trees.specs.Allowed.{Mode, StepGives, scanned, width_of}
use Rattle.plan_trees.specs.Steps.{StepForm}
use Rattle.plan_trees.specs.Steps as steps
use Rattle.plan_trees.specs.TreeTypes.{types_of}
use Rattle.column_origins.specs.Origins.{left_column}
use Rattle.plan_run_laws.specs.Spreads.{Tables}
use Rattle.plan_run_laws.specs.RunPlans.{RunPlan, tree_of_run}
use Rattle.plan_run_laws.specs.RunPlans as plan
use Rattle.plan_run_laws.specs.Runs.{AllInPieces, EdgePassed}
use Rattle.plan_run_laws.specs.Stages.{Makes, first_half, second_half}
use Rattle.lost_row_laws.specs.Sieves.{Sieve, fits_in, is_held, is_lost, over_input, under}

-- what the sieves hold back has no partner among the rows of a right side
abbrev pub AreAlone : List (ℕ × ℕ) → List (List Value) → List Sieve → Type 0
AreAlone on rows own = (a : List Value) → is_held own a ≡ true → filter (are_partners on a) rows ≡ []

-- what the tasks gave at each node, as `Ran` says it but for scans: these may have lost rows that a sieve holds back. A
-- join has sieves of its own, and hands them down its left side with those from above; the rows of its right side fit
-- their types where no row may fail
abbrev pub RanLosing : Mode → Tables → List Sieve → ℕ → RunPlan → TaskRows → Type 0
RanLosing mode tables sieves n (plan.scan id table columns types) out =
    (lost : TaskRows) × SameWeights (gather n (λ k. out k ++ lost k)) (scanned tables table columns)
    × ((k : ℕ) → k < n → Sits (is_lost mode sieves types) (lost k))
RanLosing mode tables sieves n (plan.values id types rows) out = (k : ℕ) → k < n → SameWeights (out k) rows
RanLosing mode tables sieves n (plan.remote id output m input) out =
    (ins : TaskRows) × RanLosing mode tables sieves m input ins × EdgePassed output m n ins out
RanLosing mode tables sieves n (plan.step id s input) out =
    (ins : TaskRows) × RanLosing mode tables (under (types_of (tree_of_run input)) s sieves) n input ins
    × ((k : ℕ) → k < n → StepGives mode (types_of (tree_of_run input)) s (ins k) (out k))
RanLosing mode tables sieves n (plan.halves id source output m h input) out =
    (ins : TaskRows) × (parts : TaskRows) × (got : TaskRows) × RanLosing mode tables [] m input ins
    × AllInPieces (Makes mode (first_half (types_of (tree_of_run input)) h)) m ins parts × EdgePassed output m n parts got
    × ((k : ℕ) → k < n → Makes mode (second_half (types_of (tree_of_run input)) h) (got k) (out k))
RanLosing mode tables sieves n (plan.join id kind on left right) out =
    (own : List Sieve) × (ls : TaskRows) × (rs : TaskRows)
    × RanLosing mode tables (over_input (left_column kind (width_of (tree_of_run left))) (own ++ sieves)) n left ls
    × RanLosing mode tables [] n right rs
    × AreAlone on (gather n rs) own
    × ((k : ℕ) → k < n → Sits (fits_in mode (types_of (tree_of_run right))) (rs k))
    × ((k : ℕ) → k < n
    → SameWeights
    (join_of kind on (width_of (tree_of_run left)) (width_of (tree_of_run right)) (ls k) (rs k))
    (out k))
RanLosing mode tables sieves n (plan.union id left right) out =
    (ls : TaskRows) × (rs : TaskRows) × RanLosing mode tables [] n left ls
    × RanLosing mode tables [] n right rs
    × ((k : ℕ) → k < n → SameWeights (ls k ++ rs k) (out k))

-- the expressions of a step have types
abbrev pub IsTypedStep : List SqlType → StepForm → Type 0
IsTypedStep types (steps.filter predicate) = IsTyped types predicate
IsTypedStep types (steps.project columns) = AllTyped types columns
IsTypedStep types s = Unit {0}

abbrev pub AreTyped : RunPlan → Type 0
AreTyped (plan.scan id table columns types) = Unit {0}
AreTyped (plan.values id types rows) = Unit {0}
AreTyped (plan.remote id output m input) = AreTyped input
AreTyped (plan.step id s input) = IsTypedStep (types_of (tree_of_run input)) s × AreTyped input
AreTyped (plan.halves id source output m h input) = AreTyped input
AreTyped (plan.join id kind on left right) = AreTyped left × AreTyped right
AreTyped (plan.union id left right) = AreTyped left × AreTyped right
