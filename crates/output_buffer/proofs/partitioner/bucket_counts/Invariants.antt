use Rattle.std.proofs.Common.{◌≡◌, map, take}
use Rattle.std.specs.List.{range_with_len}
use Rattle.output_buffer.proofs.PlaceLemmas.{count_of}
use Rattle.output_buffer.proofs.partitioner.bucket_counts.Given as goal

-- the rows so far are counted
abbrev pub invariant-loop-bucket : goal.invariant-loop-bucket
invariant-loop-bucket l = l.counts.items ≡ map (count_of (take l.bucket-index l.buckets)) (range_with_len 0 l.parts)
