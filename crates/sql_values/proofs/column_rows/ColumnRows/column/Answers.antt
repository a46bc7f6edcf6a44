use Rattle.std.proofs.Common.{◌≡◌, ◌+◌, ◌-◌, ◌≤◌, length, ap, sym, ◌∙◌, arith, Some}
use Rattle.sql_values.proofs.ColumnRowsLemmas.{count-seen, reach, cells-cut, type-there, none-there}
use Rattle.sql_values.proofs.column_rows.ColumnRows.column.Goals as goal

pub cut-requires-clause-within : goal.cut-requires-clause-within
cut-requires-clause-within c =
    omega (arith, count-seen _ _ _ _ _ c.self.invariant c.self.view_is, reach _ _ _ c.args.column c.in-Some.block.now c.self.invariant.filled (rw c.deref.ensures.value at c.in-Some.ensures.lookup.1) (omega (arith, ap length c.deref.ensures.value, c.in-Some.ensures.lookup.3.0)))

pub returns-in_ok-cut-in-Some-clause-cells : goal.returns-in_ok-cut-in-Some-clause-cells
returns-in_ok-cut-in-Some-clause-cells c =
    let kind : c.in-Some.block.now.kind ≡ c.args.kind = sym c.kind.ensures ∙ c.same.ensures.0 c.if-same.true in
    let within : c.args.low + (c.args.high - c.args.low) ≤ c.self.inside.count = omega (arith, count-seen _ _ _ _ _ c.self.invariant c.self.view_is) in
    rw (← c.self.view_is, ← kind)
    (c.in_ok-cut-in-Some.ensures ∙ ap (λ vs. record { kind = c.in-Some.block.now.kind; cells = vs }) (cells-cut _ _ c.args.low (c.args.high - c.args.low) _ c.args.column c.in-Some.block.now c.self.invariant.filled (rw c.deref.ensures.value at c.in-Some.ensures.lookup.1) (omega (arith, ap length c.deref.ensures.value, c.in-Some.ensures.lookup.3.0)) within))
