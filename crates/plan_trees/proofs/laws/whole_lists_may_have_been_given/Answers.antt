use Rattle.plan_trees.specs.TreeForms.{tree_view}
use Rattle.plan_trees.proofs.GivenLemmas.{may_have_given}
use Rattle.plan_trees.proofs.laws.whole_lists_may_have_been_given.Goals as goal

pub returns : goal.returns
returns c = may_have_given (tree_view c.args.tree.now) c.args.tables.now c.args.rows.now c.requires
