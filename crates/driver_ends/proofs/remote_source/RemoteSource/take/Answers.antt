use Rattle.std.proofs.Common.{subst, sym}
use Rattle.driver_ends.specs.Sources.{HoldsLast}
use Rattle.driver_ends.proofs.EndLemmas.{none_left}
use Rattle.driver_ends.proofs.remote_source.RemoteSource.take.Goals as goal

pub invariant_of-self : goal.invariant_of-self
invariant_of-self c = record { last = subst (HoldsLast c.self.inside.seat.took) (sym c.take.ensures.after) (none_left c.self.inside.seat.took) }
