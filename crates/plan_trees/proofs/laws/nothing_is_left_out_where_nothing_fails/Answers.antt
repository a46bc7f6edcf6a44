use Rattle.plan_trees.specs.TreeForms.{tree_view}
use Rattle.plan_trees.proofs.ModeLemmas.{strict_from_skipping}
use Rattle.plan_trees.proofs.laws.nothing_is_left_out_where_nothing_fails.Goals as goal

pub returns : goal.returns
returns c = strict_from_skipping (tree_view c.args.tree.now) c.args.tables.now c.args.rows.now c.requires.calm c.requires.allowed
