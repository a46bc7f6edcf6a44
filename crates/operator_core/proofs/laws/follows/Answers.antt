use Rattle.operator_core.proofs.ChainLemmas.{follows}
use Rattle.operator_core.proofs.laws.follows.Goals as goal

pub returns : goal.returns
returns g c = λ ended X Y turns linked. follows g.O.Operator c.laws.ensures ended c.args.stages.now X Y turns linked
