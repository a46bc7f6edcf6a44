-- Which spread a node has in a fragment of so many tasks.
use Rattle.std.specs.Prelude.{◌≡◌, ℕ, ◌<◌, List, length, map, get_or, All, Contains}
use Rattle.sql_values.specs.declared.types.SqlType.{SqlType}
use Rattle.sql_values.specs.declared.value.Value.{Value}
use Rattle.sql_values.specs.declared.relational.Call.{Call}
use Rattle.sql_values.specs.declared.relational.JoinKind.{JoinKind}
use Rattle.sql_exprs.specs.Forms.{Form, column}
use Rattle.bag_laws.specs.Buckets.{AllBelow, at_places, lefts, rights}
use Rattle.plan_trees.specs.Allowed.{width_of}
use Rattle.plan_trees.specs.Steps.{StepForm}
use Rattle.plan_trees.specs.HalvedSteps.{HalvedForm}
use Rattle.plan_run_laws.specs.RunPlans.{RunPlan, tree_of_run, single, hashed, broadcast, scan, values, remote, step, halves, filter, project, join, aggregate, aggregate_parts, union}
use Rattle.plan_run_laws.specs.Spreads.{Spread, whole, any, by, every}

-- a fragment that another reads: one task has all rows, or some tasks have each row once
abbrev pub IsRead : ℕ → Spread → Type 0
IsRead tasks whole = tasks ≡ 1
IsRead tasks any = 0 < tasks
IsRead tasks (by columns) = 0 < tasks
IsRead tasks every = ⊥

-- the expressions at the places are plain columns
abbrev pub AreColumnsAt : List Form → List ℕ → List ℕ → Type 0
AreColumnsAt forms places columns =
    AllBelow (length forms) places
    × (map (λ place. get_or forms place (column 0)) places ≡ map column columns)

-- the spread of each node. In a fragment of one task a node may be whole, whichever it is;
-- where several run it, what has no rule has no spread
pub data Placed : ℕ → RunPlan → Spread → Type 0 where
  scan_whole : {id table : ℕ} {columns : List ℕ} {types : List SqlType}
      → Placed 1 (scan id table columns types) whole
  scan_any : {n id table : ℕ} {columns : List ℕ} {types : List SqlType}
      → Placed n (scan id table columns types) any
  values_whole : {id : ℕ} {types : List SqlType} {rows : List (List Value)}
      → Placed 1 (values id types rows) whole
  values_every : {n id : ℕ} {types : List SqlType} {rows : List (List Value)}
      → Placed n (values id types rows) every
  -- the reader decides the output kind
  remote_whole : {id m : ℕ} {input : RunPlan} {s : Spread}
      → IsRead m s → Placed m input s → Placed 1 (remote id single m input) whole
  remote_by : {n id m : ℕ} {input : RunPlan} {s : Spread} {columns : List ℕ}
      → AllBelow (width_of (tree_of_run input)) columns
      → IsRead m s → Placed m input s → Placed n (remote id (hashed columns) m input) (by columns)
  remote_every : {n id m : ℕ} {input : RunPlan} {s : Spread}
      → IsRead m s → Placed m input s → Placed n (remote id broadcast m input) every
  -- what one task does with all rows
  step_whole : {id : ℕ} {does : StepForm} {input : RunPlan}
      → Placed 1 input whole → Placed 1 (step id does input) whole
  halves_whole : {id source m : ℕ} {halved : HalvedForm} {input : RunPlan} {s : Spread}
      → IsRead m s → Placed m input s → Placed 1 (halves id source single m halved input) whole
  -- row by row; columns by which rows sit have to stay plain columns
  filter_stays : {n id : ℕ} {predicate : Form} {input : RunPlan} {s : Spread}
      → Placed n input s → Placed n (filter id predicate input) s
  project_any : {n id : ℕ} {columns : List Form} {input : RunPlan}
      → Placed n input any → Placed n (project id columns input) any
  project_by : {n id : ℕ} {columns : List Form} {input : RunPlan} {places taken : List ℕ}
      → AreColumnsAt columns places taken
      → Placed n input (by taken) → Placed n (project id columns input) (by places)
  project_every : {n id : ℕ} {columns : List Form} {input : RunPlan}
      → Placed n input every → Placed n (project id columns input) every
  -- beside a right side that each task has, or bucket by bucket
  join_whole : {id : ℕ} {kind : JoinKind} {on : List (ℕ × ℕ)} {left right : RunPlan}
      → Placed 1 left whole → Placed 1 right whole → Placed 1 (join id kind on left right) whole
  join_right_every : {n id : ℕ} {kind : JoinKind} {on : List (ℕ × ℕ)} {left right : RunPlan}
      {s : Spread}
      → Placed n left s → Placed n right every → Placed n (join id kind on left right) s
  join_by : {n id : ℕ} {kind : JoinKind} {on : List (ℕ × ℕ)} {left right : RunPlan}
      (pairs : List (ℕ × ℕ)) → All (Contains on) pairs
      → Placed n left (by (lefts pairs)) → Placed n right (by (rights pairs))
      → Placed n (join id kind on left right) (by (lefts pairs))
  -- groups that are whole in a task: the buckets are by some of the keys
  aggregate_by : {n id : ℕ} {keys places : List ℕ} {calls : List Call} {input : RunPlan}
      → 0 < length keys → AllBelow (length keys) places
      → Placed n input (by (at_places keys places))
      → Placed n (aggregate id keys calls input) (by places)
  final_by : {n id source m : ℕ} {keys columns : List ℕ} {calls : List Call} {input : RunPlan}
      {s : Spread}
      → 0 < length keys → AllBelow (length keys) columns → IsRead m s → Placed m input s
      → Placed n (aggregate_parts id source (hashed columns) m keys calls input) (by columns)
  -- rows of both sides, in the tasks in which they are
  union_whole : {id : ℕ} {left right : RunPlan}
      → Placed 1 left whole → Placed 1 right whole → Placed 1 (union id left right) whole
  union_any : {n id : ℕ} {left right : RunPlan}
      → Placed n left any → Placed n right any → Placed n (union id left right) any
  union_every : {n id : ℕ} {left right : RunPlan}
      → Placed n left every → Placed n right every → Placed n (union id left right) every
  -- rows that sit by bucket are each in one task
  any_from_by : {n : ℕ} {plan : RunPlan} {columns : List ℕ}
      → Placed n plan (by columns) → Placed n plan any
