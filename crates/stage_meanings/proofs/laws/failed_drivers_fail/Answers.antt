use Rattle.stage_meanings.proofs.MeaningLemmas.{all_fail}
use Rattle.stage_meanings.proofs.laws.failed_drivers_fail.Goals as goal

pub returns : goal.returns
returns g c = λ made taken given pipeline mean are ended X fit i m lt at node kind fails.
    all_fail g.O.Operator c.laws.ensures c.args.stages.now made taken given pipeline mean are ended X fit i m m lt at node kind fails
