use Rattle.stage_meanings.proofs.MeaningLemmas.{all_make}
use Rattle.stage_meanings.proofs.laws.finished_drivers_make.Goals as goal

pub returns : goal.returns
returns g c = λ taken given pipeline mean X Y fit chain. (all_make g.O.Operator c.args.made.now taken given pipeline mean X Y fit chain).0
