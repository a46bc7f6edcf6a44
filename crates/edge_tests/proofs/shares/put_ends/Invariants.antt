use Rattle.std.proofs.Common.{◌≡◌}
use Rattle.output_buffer.specs.Edges.{end_count}
use Rattle.edge_tests.proofs.shares.put_ends.Given as goal

abbrev pub invariant-loop-number : goal.invariant-loop-number
invariant-loop-number g l =
    (end_count l.put.put ≡ l.number) × (l.put.takers ≡ l.initial.put.takers) × (l.put.edge ≡ l.initial.put.edge)
