use Rattle.std.proofs.Common.{◌≡◌, ◌≤◌, ◌<◌, [], length, get_or, take, drop, refl, ap, sym, ◌∙◌, arith}
use Rattle.sql_values.proofs.ColumnRowsLemmas.{count-seen, long-each, get_or-rows_of}
use Rattle.sql_values.proofs.column_rows.ColumnRows.row.Goals as goal

pub cells_at-requires : goal.cells_at-requires
cells_at-requires c = rw c.as_slice.ensures.value (long-each _ _ _ _ c.self.invariant.filled (omega (arith, count-seen _ _ _ _ _ c.self.invariant c.self.view_is)))

pub returns : goal.returns
returns c =
    let within : c.args.place < c.self.inside.count = omega (arith, count-seen _ _ _ _ _ c.self.invariant c.self.view_is) in
    rw (← c.self.view_is) (c.of.ensures ∙ (rw c.as_slice.ensures.value at c.in_ok-cells_at.ensures) ∙ sym (get_or-rows_of _ _ _ _ within c.self.invariant.filled))
