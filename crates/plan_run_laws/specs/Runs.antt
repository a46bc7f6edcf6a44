-- What the tasks gave at each node of a plan, the drivers of a task together.
use Rattle.std.specs.Prelude.{ℕ, ◌<◌, List, ◌++◌}
use Rattle.sql_values.specs.declared.value.Value.{Value}
use Rattle.sql_values.specs.declared.relational.Call.{Call}
use Rattle.bag_laws.specs.Buckets.{key_bucket, of_bucket}
use Rattle.bag_laws.specs.Gather.{gather}
use Rattle.bag_laws.specs.Laws.{TaskRows}
use Rattle.bag_laws.specs.Pieces.{partials_of}
use Rattle.bag_laws.specs.Weights.{SameWeights}
use Rattle.relation_laws.specs.Joins.{join_of}
use Rattle.plan_trees.specs.Allowed.{Mode, StepGives, scanned, width_of}
use Rattle.plan_trees.specs.TreeTypes.{types_of}
use Rattle.plan_run_laws.specs.Spreads.{Tables}
use Rattle.plan_run_laws.specs.RunPlans.{Output, RunPlan, tree_of_run, single, hashed, broadcast, scan, values, remote, step, halves, join, union}
use Rattle.plan_run_laws.specs.Stages.{Makes, first_half, second_half}

-- what the reading task k of so many gets of all rows of the fragment below
abbrev pub sent : Output → ℕ → ℕ → List (List Value) → List (List Value)
sent single tasks k rows = rows
sent (hashed columns) tasks k rows = of_bucket (key_bucket tasks columns) k rows
sent broadcast tasks k rows = rows

-- each of the reading tasks got what was sent to it of the rows that the tasks below gave, in
-- any order
abbrev pub EdgePassed : Output → ℕ → ℕ → TaskRows → TaskRows → Type 0
EdgePassed output below tasks gave got =
    (k : ℕ) → k < tasks → SameWeights (sent output tasks k (gather below gave)) (got k)

-- the rows were cut into pieces, one for each driver, and what these gave was put together
pub record InPieces (Gave : List (List Value) → List (List Value) → Type 0)
    (rows given : List (List Value)) : Type 0 where
  pub drivers : ℕ
  pub pieces : TaskRows
  pub gave : TaskRows
  pub cut : SameWeights (gather drivers pieces) rows
  pub each : (d : ℕ) → d < drivers → Gave (pieces d) (gave d)
  pub together : SameWeights (gather drivers gave) given

abbrev pub AllInPieces : (List (List Value) → List (List Value) → Type 0)
    → ℕ → TaskRows → TaskRows → Type 0
AllInPieces Gave tasks rows given = (j : ℕ) → j < tasks → InPieces Gave (rows j) (given j)

abbrev pub ArePartialsOf : List ℕ → List Call → List (List Value) → List (List Value) → Type 0
ArePartialsOf keys calls rows given = SameWeights (partials_of keys calls rows) given

-- at each node: what the tasks below a number gave of what they, or the tasks below an edge, had
abbrev pub Ran : Mode → Tables → ℕ → RunPlan → TaskRows → Type 0
Ran mode tables n (scan id table columns types) out =
    SameWeights (gather n out) (scanned tables table columns)
Ran mode tables n (values id types rows) out = (k : ℕ) → k < n → SameWeights (out k) rows
Ran mode tables n (remote id output m input) out =
    (ins : TaskRows) × Ran mode tables m input ins × EdgePassed output m n ins out
Ran mode tables n (step id s input) out =
    (ins : TaskRows) × Ran mode tables n input ins
    × ((k : ℕ) → k < n → StepGives mode (types_of (tree_of_run input)) s (ins k) (out k))
Ran mode tables n (halves id source output m h input) out =
    (ins : TaskRows) × (parts : TaskRows) × (got : TaskRows) × Ran mode tables m input ins
    × AllInPieces (Makes mode (first_half (types_of (tree_of_run input)) h)) m ins parts
    × EdgePassed output m n parts got
    × ((k : ℕ) → k < n → Makes mode (second_half (types_of (tree_of_run input)) h) (got k) (out k))
Ran mode tables n (join id kind on left right) out =
    (ls : TaskRows) × (rs : TaskRows) × Ran mode tables n left ls × Ran mode tables n right rs
    × ((k : ℕ) → k < n
    → SameWeights
    (join_of kind on (width_of (tree_of_run left)) (width_of (tree_of_run right)) (ls k) (rs k))
    (out k))
Ran mode tables n (union id left right) out =
    (ls : TaskRows) × (rs : TaskRows) × Ran mode tables n left ls × Ran mode tables n right rs
    × ((k : ℕ) → k < n → SameWeights (ls k ++ rs k) (out k))
