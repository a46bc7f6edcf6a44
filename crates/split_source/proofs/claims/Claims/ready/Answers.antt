use Rattle.std.proofs.Common.{rules}
use Rattle.split_source.proofs.claims.Claims.ready.Goals as goal

pub returns-in_err-seats : goal.returns-in_err-seats
returns-in_err-seats c = search rules
