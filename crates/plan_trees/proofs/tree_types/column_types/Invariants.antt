use Rattle.std.proofs.Common.{◌≡◌, map, take}
use Rattle.sql_exprs.specs.Forms.{form_view}
use Rattle.sql_exprs.specs.Meaning.{kind_of}
use Rattle.plan_trees.proofs.tree_types.column_types.Given as goal

abbrev pub invariant-loop-column : goal.invariant-loop-column
invariant-loop-column l = l.kinds ≡ map (kind_of l.types) (map form_view (take l.column-index l.columns))
