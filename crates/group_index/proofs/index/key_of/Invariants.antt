use Rattle.std.proofs.Common.{◌≡◌, take}
use Rattle.sql_values.specs.Cells.{cut}
use Rattle.group_index.proofs.index.key_of.Given as goal

abbrev pub invariant-loop-column : goal.invariant-loop-column
invariant-loop-column g l = l.values.items ≡ cut (take l.column-index l.columns) (g.C.Cells.values l.cells)
