use Rattle.bag_laws.proofs.JoinLemmas.{join-gather_left}
use Rattle.bag_laws.proofs.laws.join_with_a_whole_right_side_is_the_join.Goals as goal

pub returns : goal.returns
returns c = λ left. join-gather_left c.args.kind c.args.on.now c.args.left_width c.args.right_width c.args.tasks left c.args.right.now
