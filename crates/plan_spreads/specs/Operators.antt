-- The spread that an operator gives over inputs of known spreads, in a fragment that several tasks run. Where it has
-- none it may not stand there.
use Rattle.std.specs.Prelude.{ℕ, List, [], Bool, true, false, ◌&&◌, nat_lt, if◌then◌else◌, Option, Some, None, option_map}
use Rattle.std.specs.List.{list_all}
use Rattle.sql_exprs.specs.Forms.{Form}
use Rattle.plan_trees.specs.declared.tree.Pair.{Pair}
use Rattle.plan_docs.specs.declared.node.NodeStep.{NodeStep}
use Rattle.plan_docs.specs.declared.node.NodeStep.TheVariants as step
use Rattle.plan_docs.specs.declared.plan.Output.{Output}
use Rattle.plan_docs.specs.declared.plan.Output.TheVariants as output
use Rattle.plan_docs.specs.declared.plan.Placement.{Placement}
use Rattle.plan_docs.specs.declared.plan.Placement.TheVariants as placement
use Rattle.plan_spreads.specs.declared.spread.RowSpread.{RowSpread}
use Rattle.plan_spreads.specs.declared.spread.RowSpread.TheVariants.{Any, By, Every}
use Rattle.plan_spreads.specs.Columns.{are_paired, is_column, is_key, first_places}

-- the tasks share the rows of a table
abbrev pub scan_spread : Placement → Option RowSpread
scan_spread placement.Source = Some Any
scan_spread p = None

abbrev pub remote_spread : Output → Option RowSpread
remote_spread (output.Hash columns) = Some (By columns)
remote_spread output.Broadcast = Some Every
remote_spread o = None

-- a column that is computed, or left out, gives no bucket
abbrev pub by_or_any : Option (List ℕ) → RowSpread
by_or_any (Some places) = By places
by_or_any None = Any

abbrev pub project_spread : List Form → RowSpread → Option RowSpread
project_spread forms (By columns) = Some (by_or_any (first_places is_column forms columns))
project_spread forms Any = Some Any
project_spread forms Every = Some Every
project_spread forms s = None

-- beside a right side that each task has, or bucket by bucket
abbrev pub join_spread : List Pair → RowSpread → RowSpread → Option RowSpread
join_spread on left Every = Some left
join_spread on (By cs) (By ds) = if are_paired on cs ds then Some (By cs) else None
join_spread on left right = None

-- each row is in one task
abbrev pub is_parted : RowSpread → Bool
is_parted Any = true
is_parted (By columns) = true
is_parted s = false

abbrev pub partial_spread : RowSpread → Option RowSpread
partial_spread input = if is_parted input then Some Any else None

-- a group has to be whole in a task: without keys all rows are one group
abbrev pub whole_spread : List ℕ → RowSpread → Option RowSpread
whole_spread [] input = None
whole_spread keys (By columns) = option_map By (first_places is_key keys columns)
whole_spread keys input = None

abbrev pub aggregate_spread : NodeStep → List ℕ → RowSpread → Option RowSpread
aggregate_spread step.Partial keys input = partial_spread input
aggregate_spread step.Single keys input = whole_spread keys input

-- the keys come first in a PARTIAL row, so their places are the numbers below `keys`
abbrev pub are_keys : ℕ → List ℕ → Bool
are_keys keys columns = nat_lt 0 keys && list_all (λ c. nat_lt c keys) columns

abbrev pub final_spread : Placement → ℕ → RowSpread → Option RowSpread
final_spread placement.Hash keys (By columns) = if are_keys keys columns then Some (By columns) else None
final_spread p keys input = None

-- of a top n and of a limit
abbrev pub first_rows_spread : NodeStep → RowSpread → Option RowSpread
first_rows_spread step.Partial input = partial_spread input
first_rows_spread step.Single input = None

abbrev pub is_every : RowSpread → Bool
is_every Every = true
is_every s = false

abbrev pub union_spread : RowSpread → RowSpread → Option RowSpread
union_spread left right =
    if is_parted left && is_parted right then Some Any
    else if is_every left && is_every right then Some Every
    else None
