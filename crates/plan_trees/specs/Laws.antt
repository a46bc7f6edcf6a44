-- What the laws speak of.
use Rattle.std.specs.Prelude.{ℕ, List}
use Rattle.sql_values.specs.declared.value.Value.{Value}
use Rattle.sql_values.specs.declared.fail.Fail.{Fail}
use Rattle.sql_values.specs.Bags.{SameBag}
use Rattle.plan_trees.specs.TreeForms.{TreeForm}
use Rattle.plan_trees.specs.Allowed.{AllowsSkipping, table_rows}
use Rattle.plan_trees.specs.Stopped.{MayFail}

-- no node may fail
abbrev pub CannotFail : TreeForm → List (List (List Value)) → Type 0
CannotFail tree tables = (node : ℕ) (kind : Fail) → ¬ MayFail tree tables node kind

-- there is a list that is allowed with failing rows and groups left out
abbrev pub AllowsSome : TreeForm → List (List (List Value)) → Type 0
AllowsSome tree tables = (rows : List (List Value)) × AllowsSkipping tree tables rows

-- each table has the same rows, in any order
abbrev pub SameTables : List (List (List Value)) → List (List (List Value)) → Type 0
SameTables tables others = (table : ℕ) → SameBag (table_rows tables table) (table_rows others table)
