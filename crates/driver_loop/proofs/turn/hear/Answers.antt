use Rattle.std.proofs.Common.{rules}
use Rattle.driver_loop.proofs.turn.hear.Goals as goal

pub returns-clause-heard : goal.returns-clause-heard
returns-clause-heard c = search rules
