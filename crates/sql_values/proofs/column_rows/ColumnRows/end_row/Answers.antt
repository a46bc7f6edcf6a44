use Rattle.std.proofs.Common.{arith}
use Rattle.sql_values.proofs.ColumnRowsLemmas.{end-columns, end-seen, end-length}
use Rattle.sql_values.proofs.column_rows.ColumnRows.end_row.Goals as goal

pub returns-then-self-len-clause-full : goal.returns-then-self-len-clause-full
returns-then-self-len-clause-full c = let e = end-length _ _ _ _ c.self.invariant in rw (← c.self.view_is) (grind arith)

pub invariant_of-self : goal.invariant_of-self
invariant_of-self c = end-columns _ _ _ _ _ c.index.result.now c.self.invariant (omega arith) c.index.ensures c.len-self-inside.ensures

pub returns-clause-full : goal.returns-clause-full
returns-clause-full c = let e = end-length _ _ _ _ c.self.invariant in rw (← c.self.view_is) (grind arith)

pub returns-clause-ok : goal.returns-clause-ok
returns-clause-ok c = rw (← c.self.view_is) (end-seen _ _ _ _ _ c.index.result.now c.self.invariant (omega arith) c.index.ensures c.len-self-inside.ensures)
