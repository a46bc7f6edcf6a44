use Rattle.net_laws.proofs.OrderLemmas.{count_exact}
use Rattle.net_laws.proofs.counts.counts_are_exact_where_all_wait.Goals as goal

pub returns : goal.returns
returns c = count_exact
