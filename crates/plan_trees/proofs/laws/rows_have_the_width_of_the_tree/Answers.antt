use Rattle.plan_trees.specs.Allowed.{strict, skipping}
use Rattle.plan_trees.specs.TreeForms.{tree_view}
use Rattle.plan_trees.proofs.WidthLemmas.{rows_have_width}
use Rattle.plan_trees.proofs.laws.rows_have_the_width_of_the_tree.Goals as goal

pub returns-clause-strict : goal.returns-clause-strict
returns-clause-strict c = rows_have_width strict c.args.tables.now (tree_view c.args.tree.now) c.args.rows.now c.requires

pub returns-clause-skipping : goal.returns-clause-skipping
returns-clause-skipping c = rows_have_width skipping c.args.tables.now (tree_view c.args.tree.now) c.args.rows.now c.requires
