use Rattle.operator_core.proofs.ChainLemmas.{finished}
use Rattle.operator_core.proofs.laws.finished.Goals as goal

pub returns : goal.returns
returns g c = λ ended X Y turns over linked. finished g.O.Operator c.laws.ensures ended c.args.stages.now X Y turns over linked
