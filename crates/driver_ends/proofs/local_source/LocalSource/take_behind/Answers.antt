use Rattle.std.proofs.Common.{rules}
use Rattle.driver_ends.proofs.local_source.LocalSource.take_behind.Goals as goal

pub returns-in-Err-clause-on : goal.returns-in-Err-clause-on
returns-in-Err-clause-on g c = search rules
