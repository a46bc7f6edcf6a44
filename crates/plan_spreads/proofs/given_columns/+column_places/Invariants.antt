use Rattle.std.proofs.Common.{length}
use Rattle.plan_spreads.proofs.given_columns.+column_places.Given as goal

abbrev pub decreases-column_places : goal.decreases-column_places
decreases-column_places l = length l.columns.now
