use Rattle.bag_laws.proofs.GroupLemmas.{same-groups_of}
use Rattle.bag_laws.proofs.BagLemmas.{same_from_bag}
use Rattle.bag_laws.proofs.laws.groups_have_no_order.Goals as goal

pub returns : goal.returns
returns c = same-groups_of c.args.types.now c.args.calls.now c.args.keys.now (same_from_bag c.args.rows.now c.args.others.now c.requires)
