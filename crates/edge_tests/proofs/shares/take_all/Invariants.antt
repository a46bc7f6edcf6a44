use Rattle.std.proofs.Common.{◌≡◌}
use Rattle.edge_tests.proofs.shares.take_all.Given as goal

abbrev pub invariant-loop : goal.invariant-loop
invariant-loop g l = l.take.edge ≡ l.fn.take.edge
