use Rattle.std.proofs.Common.{◌≡◌, map, take}
use Rattle.output_buffer.specs.Partitions.{hash_of}
use Rattle.output_buffer.proofs.partitioner.hash_rows.Given as goal

-- the columns so far are hashed
abbrev pub invariant-loop-column : goal.invariant-loop-column
invariant-loop-column l = l.hashes.items ≡ map (hash_of (take l.column-index l.columns)) l.page.rows
