use Rattle.std.proofs.Common.{rules}
use Rattle.driver_ends.proofs.outlet.Outlet.put_behind.Goals as goal

pub returns-in-Err-Full-clause-full : goal.returns-in-Err-Full-clause-full
returns-in-Err-Full-clause-full g c = search rules
