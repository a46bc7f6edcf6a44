use Rattle.std.proofs.Common.{map}
use Rattle.plan_trees.specs.Allowed.{skipping}
use Rattle.plan_trees.specs.TreeForms.{tree_view}
use Rattle.tree_evaluator.specs.Stops.{rows_of_table}
use Rattle.tree_type_laws.proofs.TreeLemmas.{rows_keep}
use Rattle.tree_type_laws.proofs.laws.rows_of_a_tree_skipping_failures_have_types.Goals as goal

pub returns : goal.returns
returns c = rows_keep skipping (tree_view c.args.tree.now) (map rows_of_table c.args.tables.now) c.requires.fit c.requires.typed c.args.rows.now c.requires.allowed
