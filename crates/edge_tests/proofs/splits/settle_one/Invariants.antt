use Rattle.std.proofs.Common.{◌≡◌}
use Rattle.edge_tests.proofs.splits.settle_one.Given as goal

abbrev pub invariant-loop : goal.invariant-loop
invariant-loop l = l.seat.claims.of.seats ≡ 1
