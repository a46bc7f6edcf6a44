use Rattle.std.proofs.Common.{◌<◌, length, ap, sym, arith}
use Rattle.std.proofs.lemmas.Option.{slice_get_past}
use Rattle.sql_values.proofs.ColumnRowsLemmas.{none-there, seen-columns}
use Rattle.sql_values.proofs.column_rows.ColumnRows.block.Goals as goal

pub returns-in-Some-clause-cells : goal.returns-in-Some-clause-cells
returns-in-Some-clause-cells c =
    seen-columns _ _ _ _ _ c.args.column c.in-Some.block.now c.self.invariant c.self.view_is c.requires
    (rw c.deref.ensures.value at c.in-Some.ensures.lookup.1) (omega (arith, ap length c.deref.ensures.value, c.in-Some.ensures.lookup.3.0))

pub returns-in-None-clause-there : goal.returns-in-None-clause-there
returns-in-None-clause-there c =
    sym (none-there _ _ _ _ _ c.args.column c.self.invariant c.self.view_is (slice_get_past _ c.args.column (omega (arith, ap length c.deref.ensures.value, c.in-None.ensures.lookup.3))))
