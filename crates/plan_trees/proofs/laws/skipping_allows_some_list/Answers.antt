use Rattle.plan_trees.specs.TreeForms.{tree_view}
use Rattle.plan_trees.proofs.ModeLemmas.{some_list}
use Rattle.plan_trees.proofs.laws.skipping_allows_some_list.Goals as goal

pub returns : goal.returns
returns c = some_list (tree_view c.args.tree.now) c.args.tables.now
