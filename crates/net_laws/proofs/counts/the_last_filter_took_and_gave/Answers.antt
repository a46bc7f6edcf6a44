use Rattle.net_laws.proofs.FirstLemmas.{last_filter}
use Rattle.net_laws.proofs.counts.the_last_filter_took_and_gave.Goals as goal

pub returns : goal.returns
returns g c = last_filter g.O.Operator
