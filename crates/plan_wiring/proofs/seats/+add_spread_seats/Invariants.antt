use Rattle.std.proofs.Common.{length}
use Rattle.plan_wiring.proofs.seats.+add_spread_seats.Given as goal

abbrev pub decreases-add_spread_seats : goal.decreases-add_spread_seats
decreases-add_spread_seats l = length l.spreads.now
