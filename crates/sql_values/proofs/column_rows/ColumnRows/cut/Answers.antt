use Rattle.std.proofs.Common.{◌≡◌, ◌≤◌, ◌<◌, [], length, get_or, take, drop, refl, ap, sym, ◌∙◌, arith}
use Rattle.sql_values.proofs.ColumnRowsLemmas.{count-seen, long-each, places-each, cut-columns, cut-seen}
use Rattle.sql_values.proofs.column_rows.ColumnRows.cut.Goals as goal

pub cut_each-requires-clause-within : goal.cut_each-requires-clause-within
cut_each-requires-clause-within c = rw c.as_slice-2.ensures.value (long-each _ _ _ _ c.self.invariant.filled (omega (arith, count-seen _ _ _ _ _ c.self.invariant c.self.view_is)))

pub invariant_of-result : goal.invariant_of-result
invariant_of-result c = rw (c.in_ok-from_slice.ensures.items, c.as_slice.ensures.value, c.in_ok-cut_each.ensures, c.as_slice-2.ensures.value) (cut-columns _ _ _ _ _ _ c.self.invariant (omega (arith, count-seen _ _ _ _ _ c.self.invariant c.self.view_is)))

pub returns : goal.returns
returns c = rw (← c.self.view_is, c.in_ok-from_slice.ensures.items, c.as_slice.ensures.value, c.in_ok-cut_each.ensures, c.as_slice-2.ensures.value) (cut-seen _ _ _ _ _ _ c.self.invariant (omega (arith, count-seen _ _ _ _ _ c.self.invariant c.self.view_is)))
