use Rattle.plan_trees.specs.Allowed.{strict, skipping}
use Rattle.plan_trees.specs.TreeForms.{tree_view}
use Rattle.plan_trees.proofs.TableLemmas.{other_tables}
use Rattle.plan_trees.proofs.laws.tables_have_no_order.Goals as goal

pub returns-clause-strict : goal.returns-clause-strict
returns-clause-strict c = other_tables strict c.args.tables.now c.args.others.now c.requires (tree_view c.args.tree.now) c.args.rows.now

pub returns-clause-skipping : goal.returns-clause-skipping
returns-clause-skipping c = other_tables skipping c.args.tables.now c.args.others.now c.requires (tree_view c.args.tree.now) c.args.rows.now
