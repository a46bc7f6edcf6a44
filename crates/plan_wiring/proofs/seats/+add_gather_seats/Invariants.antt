use Rattle.std.proofs.Common.{length}
use Rattle.plan_wiring.proofs.seats.+add_gather_seats.Given as goal

abbrev pub decreases-add_gather_seats : goal.decreases-add_gather_seats
decreases-add_gather_seats l = length l.gathers.now
