use Rattle.bag_laws.proofs.LawLemmas.{join-by_columns}
use Rattle.bag_laws.proofs.laws.join_of_buckets_is_the_join.Goals as goal

pub returns : goal.returns
returns c = join-by_columns c.args.kind c.args.on.now c.args.pairs.now c.args.left_width c.args.right_width c.args.tasks c.requires
