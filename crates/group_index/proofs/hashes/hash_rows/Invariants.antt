use Rattle.std.proofs.Common.{◌≡◌, map, take}
use Rattle.sql_values.specs.Cells.{cut}
use Rattle.cell_hashes.specs.Hashes.{hash_of}
use Rattle.group_index.proofs.hashes.hash_rows.Given as goal

abbrev pub invariant-loop-position : goal.invariant-loop-position
invariant-loop-position l = l.hashes.items ≡ map (λ row. hash_of (cut l.columns row)) (take l.position l.page.rows)
