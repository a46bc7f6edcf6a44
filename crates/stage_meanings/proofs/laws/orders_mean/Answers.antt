use Rattle.stage_meanings.proofs.OrderLemmas.{orders-mean}
use Rattle.stage_meanings.proofs.laws.orders_mean.Goals as goal

pub returns : goal.returns
returns g c = λ m node types step some own. orders-mean g.O.Operator m node types step some own
