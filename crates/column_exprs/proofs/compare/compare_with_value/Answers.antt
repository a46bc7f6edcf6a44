use Rattle.sql_values.specs.Cells.{lent_value}
use Rattle.column_exprs.proofs.CompareLemmas.{compared_found}
use Rattle.column_exprs.proofs.compare.compare_with_value.Goals as goal

pub returns-clause-values : goal.returns-clause-values
returns-clause-values c =
    compared_found c.against.result c.in-Some.op c.args.name c.args.left.now c.args.right.now (lent_value c.in-Some-constant.value) c.in-Some-block.block.now.cells c.args.count
    c.in-Some.ensures (c.in-Some-block.ensures.len c.args.count c.requires) c.in-Some-block.ensures.cells c.in-Some-constant.ensures c.against.ensures.cells
