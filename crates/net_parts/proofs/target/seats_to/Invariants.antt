use Rattle.net_parts.proofs.SeatLemmas.{SeatsFor}
use Rattle.net_parts.proofs.target.seats_to.Given as goal

abbrev pub invariant-loop-task : goal.invariant-loop-task
invariant-loop-task l = SeatsFor l.making.lanes.now.gathers.items l.at l.fn.stock l.task l.stock l.seats.items
