use Rattle.std.proofs.Common.{rules}
use Rattle.driver_ends.proofs.outlet.OutletAdvanceAsTold.advance_as_told.Goals as goal

pub put_ends-requires : goal.put_ends-requires
put_ends-requires g c = search rules

pub returns-clause-answer : goal.returns-clause-answer
returns-clause-answer g c = search rules
