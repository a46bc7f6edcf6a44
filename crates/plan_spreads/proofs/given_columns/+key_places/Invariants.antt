use Rattle.std.proofs.Common.{length}
use Rattle.plan_spreads.proofs.given_columns.+key_places.Given as goal

abbrev pub decreases-key_places : goal.decreases-key_places
decreases-key_places l = length l.columns.now
