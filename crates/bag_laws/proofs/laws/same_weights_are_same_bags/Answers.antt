use Rattle.bag_laws.proofs.BagLemmas.{bag_from_same, same_from_bag}
use Rattle.bag_laws.proofs.laws.same_weights_are_same_bags.Goals as goal

pub returns : goal.returns
returns c = (bag_from_same c.args.rows.now c.args.others.now, same_from_bag c.args.rows.now c.args.others.now)
