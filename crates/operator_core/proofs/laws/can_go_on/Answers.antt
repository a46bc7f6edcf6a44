use Rattle.operator_core.proofs.ChainLemmas.{could_go_on}
use Rattle.operator_core.proofs.laws.can_go_on.Goals as goal

pub returns : goal.returns
returns g c = λ ended made X Y Z are turns linked coming. could_go_on g.O.Operator c.laws.ensures ended c.args.stages.now made X Y Z are turns linked coming
