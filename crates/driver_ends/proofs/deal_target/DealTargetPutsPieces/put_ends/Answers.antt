use Rattle.std.proofs.Common.{rules}
use Rattle.driver_ends.proofs.deal_target.DealTargetPutsPieces.put_ends.Goals as goal

pub returns-clause-answer : goal.returns-clause-answer
returns-clause-answer g c = search rules
