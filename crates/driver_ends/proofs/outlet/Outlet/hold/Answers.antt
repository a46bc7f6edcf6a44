use Rattle.std.proofs.Common.{rules}
use Rattle.driver_ends.proofs.outlet.Outlet.hold.Goals as goal

pub invariant_of-self : goal.invariant_of-self
invariant_of-self c = search rules
