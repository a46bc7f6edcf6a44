use Rattle.net_laws.proofs.FirstLemmas.{first_filters}
use Rattle.net_laws.proofs.counts.first_filters_are_done.Goals as goal

pub returns : goal.returns
returns g c = λ filters stages came gave over have count. first_filters g.O.Operator c.laws.ensures filters stages came gave over have count
