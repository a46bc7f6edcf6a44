use Rattle.std.proofs.Common.{◌≡◌, length, map}
use Rattle.std.specs.List.{range_with_len}
use Rattle.output_buffer.proofs.PlaceLemmas.{places_before}
use Rattle.output_buffer.proofs.partitioner.put_places.Given as goal

-- the places so far are put
abbrev pub invariant-loop-place : goal.invariant-loop-place
invariant-loop-place l =
    map (λ p. p.items) l.places.items ≡ map (places_before l.buckets l.place) (range_with_len 0 (length l.initial.places.items))
