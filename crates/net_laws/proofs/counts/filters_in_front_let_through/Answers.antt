use Rattle.net_laws.proofs.CountingDriverLemmas.{driver_counts}
use Rattle.net_laws.proofs.counts.filters_in_front_let_through.Goals as goal

pub returns : goal.returns
returns g c = λ filters stages came gave over have.
    driver_counts g.O.Operator c.laws.ensures filters stages have.are over have.turns came gave have.linked have.finished
