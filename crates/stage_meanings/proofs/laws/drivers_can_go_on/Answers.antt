use Rattle.stage_meanings.proofs.MeaningLemmas.{all_go_on}
use Rattle.stage_meanings.proofs.laws.drivers_can_go_on.Goals as goal

pub returns : goal.returns
returns g c = λ made taken given pipeline mean are ended X Y turns linked fit.
    (all_go_on g.O.Operator c.laws.ensures c.args.stages.now made taken given pipeline mean are ended X Y turns linked fit).0
