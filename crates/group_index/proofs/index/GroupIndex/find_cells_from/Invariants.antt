use Rattle.std.proofs.Common.{map}
use Rattle.sql_values.specs.Cells.{cut}
use Rattle.cell_hashes.specs.Hashes.{hash_of}
use Rattle.group_index.proofs.KeyLemmas.{IsAt, number_of}
use Rattle.group_index.proofs.index.GroupIndex.find_cells_from.Given as goal

abbrev pub invariant-loop-found : goal.invariant-loop-found
invariant-loop-found g l = IsAt l.self (map hash_of l.self) (cut l.columns (g.C.Cells.values l.cells)) l.found

abbrev pub decreases-loop-found : goal.decreases-loop-found
decreases-loop-found g l = number_of l.found
