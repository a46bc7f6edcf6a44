use Rattle.sieve_laws.proofs.DropLemmas.{all_fitting, filtered}
use Rattle.sieve_laws.proofs.filters.filters_let_rows_through.Goals as goal

pub returns : goal.returns
returns g c = λ sieves types stages came took over ended f.
    all_fitting types took (filtered g.O.Operator c.laws.ensures sieves types stages came took over ended f).fit
