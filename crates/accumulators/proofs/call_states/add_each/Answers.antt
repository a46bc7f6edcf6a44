use Rattle.std.proofs.Common.{◌≡◌, [], ◌∷◌, get_or, ap, sym, subst, ◌∙◌, arith}
use Rattle.sql_values.specs.declared.value.Value.{Value}
use Rattle.sql_values.specs.Cells.{cell, lent_value}
use Rattle.accumulators.specs.Columns.{column_of, columns_of}
use Rattle.accumulators.specs.Kept.{Kept}
use Rattle.accumulators.specs.Limits.{CanAdd, CanMerge}
use Rattle.accumulators.proofs.StateLemmas.{next-as_before}
use Rattle.accumulators.proofs.call_states.add_each.Goals as goal

pub add-requires-clause-can : goal.add-requires-clause-can
add-requires-clause-can g c =
    let row = g.C.Cells.values c.args.cells.now in
    let k : Kept = get_or c.loop-state.state-items c.loop-state.state-index c.state-item.result in
    let value : lent_value c.cell.result ≡ cell row (column_of k.call) = c.cell.ensures ∙ ap (cell row) c.column.ensures in
    subst (λ (v : Value). CanMerge k (columns_of k.call (v ∷ []))) (sym value)
    (next-as_before (CanAdd row) c.loop-state.state-items c.deref_mut-state-items.result.now c.loop-state.state-index c.state-item.result c.loop-state.invariant.others (omega arith) c.loop-state.invariant.can)
