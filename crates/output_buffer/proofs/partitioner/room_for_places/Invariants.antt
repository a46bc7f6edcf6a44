use Rattle.std.proofs.Common.{◌≡◌, [], length}
use Rattle.std.specs.Prelude.{All}
use Rattle.output_buffer.proofs.partitioner.room_for_places.Given as goal

abbrev pub invariant-loop-count : goal.invariant-loop-count
invariant-loop-count l = record {
  len : length l.places.items ≡ l.count-index;
  empty : All (λ p. p.items ≡ []) l.places.items;
}
