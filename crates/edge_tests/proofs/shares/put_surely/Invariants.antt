use Rattle.std.proofs.Common.{◌≡◌}
use Rattle.output_buffer.specs.Seats.{MayPut}
use Rattle.edge_tests.proofs.shares.put_surely.Given as goal

abbrev pub invariant-loop : goal.invariant-loop
invariant-loop g l =
    (l.piece ≡ l.fn.piece) × (l.put.put ≡ l.initial.put.put) × (l.put.takers ≡ l.initial.put.takers) × (l.put.edge ≡ l.initial.put.edge)
