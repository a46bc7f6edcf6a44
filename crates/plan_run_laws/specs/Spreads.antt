-- How the rows of a node are spread over the tasks of its fragment, and what their lists say of
-- the tree's.
use Rattle.std.specs.Prelude.{ℕ, ◌<◌, List}
use Rattle.sql_values.specs.declared.value.Value.{Value}
use Rattle.bag_laws.specs.Buckets.{SitByBucket, key_bucket}
use Rattle.bag_laws.specs.Gather.{gather}
use Rattle.bag_laws.specs.Laws.{TaskRows}
use Rattle.bag_laws.specs.Weights.{SameWeights}
use Rattle.plan_trees.specs.TreeForms.{TreeForm}
use Rattle.plan_trees.specs.Allowed.{Gives, Mode}

-- the rows of each table
abbrev pub Tables : Type 0
Tables = List (List (List Value))

-- one task has all rows, in the order in which it gave them; each row is in one task; each row
-- is in the task that is the bucket of its columns; each task has all rows
pub data Spread : Type 0 where
  whole : Spread
  any : Spread
  by : List ℕ → Spread
  every : Spread

-- the tasks' lists together are one that the tree gives, in any order
pub record Together (mode : Mode) (tree : TreeForm) (tables : Tables) (tasks : ℕ)
    (lists : TaskRows) : Type 0 where
  pub rows : List (List Value)
  pub given : Gives mode tree tables rows
  pub same : SameWeights (gather tasks lists) rows

-- each task has one that the tree gives, in any order
pub record ForEach (mode : Mode) (tree : TreeForm) (tables : Tables) (tasks : ℕ)
    (lists : TaskRows) : Type 0 where
  pub rows : List (List Value)
  pub given : Gives mode tree tables rows
  pub same : (k : ℕ) → k < tasks → SameWeights (lists k) rows

-- what the tasks' lists say where the node has the spread
abbrev pub Says : Spread → Mode → TreeForm → Tables → ℕ → TaskRows → Type 0
Says whole mode tree tables tasks lists = Gives mode tree tables (lists 0)
Says any mode tree tables tasks lists = Together mode tree tables tasks lists
Says (by columns) mode tree tables tasks lists =
    Together mode tree tables tasks lists × SitByBucket (key_bucket tasks columns) tasks lists
Says every mode tree tables tasks lists = ForEach mode tree tables tasks lists
