use Rattle.column_exprs.proofs.CompareLemmas.{single_many}
use Rattle.column_exprs.proofs.compare.value_truths.Goals as goal

pub of-requires : goal.of-requires
of-requires c =
    single_many c.args.op _ c.items.result.now c.in_ok-truths.truths.items c.nulls.result.now c.in_ok-from_slice.field-0.items c.args.numbers.now
    c.in_ok-truths.ensures c.in_ok-from_slice.ensures.items c.nulls.ensures c.items.ensures.len
