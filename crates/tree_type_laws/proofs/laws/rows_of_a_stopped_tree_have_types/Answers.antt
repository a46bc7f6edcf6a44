use Rattle.std.proofs.Common.{map}
use Rattle.plan_trees.specs.TreeForms.{tree_view}
use Rattle.tree_evaluator.specs.Stops.{rows_of_table}
use Rattle.tree_type_laws.proofs.TreeLemmas.{stopped_rows_keep}
use Rattle.tree_type_laws.proofs.laws.rows_of_a_stopped_tree_have_types.Goals as goal

pub returns : goal.returns
returns c = stopped_rows_keep (tree_view c.args.tree.now) (map rows_of_table c.args.tables.now) c.requires.fit c.requires.typed c.args.rows.now c.requires.given
