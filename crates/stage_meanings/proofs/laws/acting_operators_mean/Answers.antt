use Rattle.stage_meanings.proofs.ActLemmas.{acts_mean}
use Rattle.stage_meanings.proofs.laws.acting_operators_mean.Goals as goal

pub returns : goal.returns
returns g c = λ m n taken given pipeline acts means. acts_mean g.O.Operator m g.P.Operator n acts taken given pipeline means
