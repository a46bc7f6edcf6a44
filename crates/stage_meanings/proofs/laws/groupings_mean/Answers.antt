use Rattle.stage_meanings.proofs.GroupLemmas.{groupings-mean}
use Rattle.stage_meanings.proofs.laws.groupings_mean.Goals as goal

pub returns : goal.returns
returns g c = λ m node types keys calls allowed gives. groupings-mean g.O.Operator m node types keys calls allowed gives
