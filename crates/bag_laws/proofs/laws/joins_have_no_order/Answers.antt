use Rattle.bag_laws.proofs.LawLemmas.{bag-join}
use Rattle.bag_laws.proofs.laws.joins_have_no_order.Goals as goal

pub returns : goal.returns
returns c = bag-join c.args.kind c.args.on.now c.args.left_width c.args.right_width c.args.left.now c.args.other_left.now c.args.right.now c.args.other_right.now c.requires.left c.requires.right
