use Rattle.std.proofs.Common.{◌∙◌, sym}
use Rattle.column_exprs.proofs.CompareLemmas.{beside_found}
use Rattle.column_exprs.proofs.compare.compare_columns.Goals as goal

pub beside-requires : goal.beside-requires
beside-requires c =
    c.in-Some-block-2.ensures.len c.args.count c.requires.right ∙ sym (c.in-Some-block.ensures.len c.args.count c.requires.left)

pub returns-clause-values : goal.returns-clause-values
returns-clause-values c =
    beside_found c.beside.result c.in-Some.op c.args.name c.args.left.now c.args.right.now c.in-Some-block.first.now.cells c.in-Some-block-2.second.now.cells c.args.count
    c.in-Some.ensures (c.in-Some-block.ensures.len c.args.count c.requires.left) (c.in-Some-block-2.ensures.len c.args.count c.requires.right)
    c.in-Some-block.ensures.cells c.in-Some-block-2.ensures.cells c.beside.ensures.cells
