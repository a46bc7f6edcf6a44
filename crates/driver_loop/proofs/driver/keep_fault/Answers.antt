use Rattle.std.proofs.Common.{refl}
use Rattle.driver_loop.proofs.driver.keep_fault.Goals as goal

pub returns-clause-fault : goal.returns-clause-fault
returns-clause-fault c = c.of-fault.ensures

pub returns-clause-kept : goal.returns-clause-kept
returns-clause-kept c = refl
