use Rattle.std.proofs.Common.{rules}
use Rattle.driver_loop.proofs.source.Source.into_seats.Goals as goal

pub returns-in-Scan-clause-claim : goal.returns-in-Scan-clause-claim
returns-in-Scan-clause-claim g c = search rules
