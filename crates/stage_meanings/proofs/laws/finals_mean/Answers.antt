use Rattle.stage_meanings.proofs.GroupLemmas.{finals-mean}
use Rattle.stage_meanings.proofs.laws.finals_mean.Goals as goal

pub returns : goal.returns
returns g c = λ m node kinds types calls allowed gives. finals-mean g.O.Operator m node kinds types calls allowed gives
