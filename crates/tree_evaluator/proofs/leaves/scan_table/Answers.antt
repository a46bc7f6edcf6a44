use Rattle.std.proofs.Common.{map}
use Rattle.plan_trees.specs.Allowed.{table_rows}
use Rattle.tree_evaluator.specs.Stops.{rows_of_table}
use Rattle.tree_evaluator.proofs.LeafLemmas.{first_fit, table_missing, table_there}
use Rattle.tree_evaluator.proofs.leaves.scan_table.Goals as goal

pub scan_rows-requires-clause-fits : goal.scan_rows-requires-clause-fits
scan_rows-requires-clause-fits c =
    first_fit c.args.types.now c.args.columns.now c.in-Some.table.now.rows (table_rows (map rows_of_table c.args.tables.now) c.args.table)
    (table_there c.args.tables.now c.args.table c.in-Some.table.now c.in-Some.ensures.lookup.3.0 c.in-Some.ensures.lookup.1) c.requires.fits

pub returns-in-Some : goal.returns-in-Some
returns-in-Some c =
    rw (table_there c.args.tables.now c.args.table c.in-Some.table.now c.in-Some.ensures.lookup.3.0 c.in-Some.ensures.lookup.1) c.scan_rows.ensures

pub returns-in-None : goal.returns-in-None
returns-in-None c = rw (table_missing c.args.tables.now c.args.table c.in-None.ensures.lookup.3) c.new.ensures
