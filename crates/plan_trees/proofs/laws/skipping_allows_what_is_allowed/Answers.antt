use Rattle.plan_trees.specs.TreeForms.{tree_view}
use Rattle.plan_trees.proofs.ModeLemmas.{skipping_from_strict}
use Rattle.plan_trees.proofs.laws.skipping_allows_what_is_allowed.Goals as goal

pub returns : goal.returns
returns c = skipping_from_strict (tree_view c.args.tree.now) c.args.tables.now c.args.rows.now c.requires
