use Rattle.std.proofs.Common.{[]}
use Rattle.sieve_laws.proofs.PlainLemmas.{lost_nothing}
use Rattle.sieve_laws.proofs.laws.pipes_that_lost_nothing_stand.Goals as goal

pub returns : goal.returns
returns g c = λ pipes. lost_nothing g.O.Operator pipes c.args.tables.now []
