use Rattle.net_laws.proofs.OrderLemmas.{alike_up_to, count_alike}
use Rattle.net_laws.proofs.counts.counts_see_no_order_of_keys.Goals as goal

pub returns-clause-counts : goal.returns-clause-counts
returns-clause-counts c = count_alike

pub returns-clause-up_to : goal.returns-clause-up_to
returns-clause-up_to c = alike_up_to
