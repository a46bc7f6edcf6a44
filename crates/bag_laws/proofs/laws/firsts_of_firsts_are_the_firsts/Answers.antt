use Rattle.bag_laws.proofs.LimitLemmas.{first-of_firsts}
use Rattle.bag_laws.proofs.laws.firsts_of_firsts_are_the_firsts.Goals as goal

pub returns : goal.returns
returns c = first-of_firsts c.args.count c.args.tasks
