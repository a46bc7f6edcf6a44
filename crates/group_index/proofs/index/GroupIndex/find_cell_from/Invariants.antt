use Rattle.std.proofs.Common.{◌∷◌, [], map}
use Rattle.sql_values.specs.Cells.{lent_value}
use Rattle.cell_hashes.specs.Hashes.{hash_of}
use Rattle.group_index.proofs.KeyLemmas.{IsAt, number_of}
use Rattle.group_index.proofs.index.GroupIndex.find_cell_from.Given as goal

abbrev pub invariant-loop-found : goal.invariant-loop-found
invariant-loop-found l = IsAt l.self (map hash_of l.self) (lent_value l.key ∷ []) l.found

abbrev pub decreases-loop-found : goal.decreases-loop-found
decreases-loop-found l = number_of l.found
