use Rattle.std.proofs.Common.{length}
use Rattle.edge_tests.proofs.put_rows.+seat_all.Given as goal

abbrev pub decreases-seat_all : goal.decreases-seat_all
decreases-seat_all l = length l.edges.now
