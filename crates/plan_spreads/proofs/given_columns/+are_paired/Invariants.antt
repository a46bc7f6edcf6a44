use Rattle.std.proofs.Common.{length}
use Rattle.plan_spreads.proofs.given_columns.+are_paired.Given as goal

abbrev pub decreases-are_paired : goal.decreases-are_paired
decreases-are_paired l = length l.left.now
