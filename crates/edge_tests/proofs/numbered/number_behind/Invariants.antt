use Rattle.std.proofs.Common.{length}
use Rattle.edge_tests.proofs.numbered.number_behind.Given as goal

abbrev pub decreases-loop-page : goal.decreases-loop-page
decreases-loop-page l = length l.pages
