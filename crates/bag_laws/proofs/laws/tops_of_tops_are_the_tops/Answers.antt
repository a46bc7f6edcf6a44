use Rattle.bag_laws.proofs.TopLemmas.{top-of_tops}
use Rattle.bag_laws.proofs.laws.tops_of_tops_are_the_tops.Goals as goal

pub returns : goal.returns
returns c = top-of_tops c.args.keys.now c.args.count c.args.tasks
