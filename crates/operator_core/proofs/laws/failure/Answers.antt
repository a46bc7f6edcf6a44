use Rattle.operator_core.proofs.ChainLemmas.{failure}
use Rattle.operator_core.proofs.laws.failure.Goals as goal

pub returns : goal.returns
returns g c = λ ended i s X Y node kind within at turns linked fails.
    failure g.O.Operator ended c.args.stages.now i s X Y node kind within at turns linked fails
