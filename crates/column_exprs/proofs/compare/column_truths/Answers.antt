use Rattle.column_exprs.proofs.CompareLemmas.{beside_many}
use Rattle.column_exprs.proofs.compare.column_truths.Goals as goal

pub of-requires : goal.of-requires
of-requires c =
    beside_many c.args.op c.items.result.now c.items-2.result.now c.in_ok-truths.truths.items c.nulls.result.now c.nulls-2.result.now c.in_ok-either.field-0.items c.args.numbers.now c.args.others.now
    c.in_ok-truths.ensures c.in_ok-either.ensures c.nulls.ensures c.nulls-2.ensures c.items.ensures.len c.items-2.ensures.len c.requires
