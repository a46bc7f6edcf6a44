use Rattle.sieve_laws.proofs.DropLemmas.{fails_behind}
use Rattle.sieve_laws.proofs.filters.filters_never_fail.Goals as goal

pub returns : goal.returns
returns g c = λ sieves types stages rest came took gave over ended f linked turns node kind place s lt is fails.
    fails_behind g.O.Operator c.laws.ensures sieves types stages rest came took gave over ended f linked turns node kind place s lt is fails
