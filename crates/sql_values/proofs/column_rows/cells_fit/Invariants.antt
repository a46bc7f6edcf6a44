use Rattle.std.proofs.Common.{take}
use Rattle.std.specs.Prelude.{All, IsTrue}
use Rattle.sql_values.specs.Blocks.{fits}
use Rattle.sql_values.proofs.column_rows.cells_fit.Given as goal

abbrev pub invariant-loop-column : goal.invariant-loop-column
invariant-loop-column l = All (λ c. All (λ v. IsTrue (fits c.kind v)) c.cells) (take l.column-index l.columns)
