use Rattle.plan_trees.specs.TreeForms.{tree_view}
use Rattle.plan_trees.proofs.BeginningLemmas.{beginning_may}
use Rattle.plan_trees.proofs.laws.beginnings_may_have_been_given.Goals as goal

pub returns : goal.returns
returns c = beginning_may (tree_view c.args.tree.now) c.args.tables.now c.args.rows.now c.args.more.now c.requires.begins c.requires.given
