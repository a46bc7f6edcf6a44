use Rattle.std.proofs.Common.{◌≡◌}
use Rattle.output_buffer.specs.Edges.{end_count}
use Rattle.edge_tests.proofs.threads.put_pages.Given as goal

abbrev pub invariant-loop-number : goal.invariant-loop-number
invariant-loop-number g l =
    (end_count l.put.put ≡ 0) × (l.put.number ≡ l.initial.put.number) × (l.put.edge ≡ l.initial.put.edge)
