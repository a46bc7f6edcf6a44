use Rattle.net_laws.proofs.CountingDriverLemmas.{drivers_count}
use Rattle.net_laws.proofs.counts.filters_count_the_rows.Goals as goal

pub returns : goal.returns
returns g c = λ filters n w stages came gave over counts have rows hop few.
    drivers_count g.O.Operator c.laws.ensures filters n w stages came gave over counts have rows hop few
