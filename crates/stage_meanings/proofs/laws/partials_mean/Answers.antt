use Rattle.stage_meanings.proofs.GroupLemmas.{partials-mean}
use Rattle.stage_meanings.proofs.laws.partials_mean.Goals as goal

pub returns : goal.returns
returns g c = λ m node types keys calls makes. partials-mean g.O.Operator m node types keys calls makes
