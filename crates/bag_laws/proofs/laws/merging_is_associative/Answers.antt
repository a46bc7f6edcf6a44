use Rattle.bag_laws.proofs.MergeLemmas.{merged_assoc}
use Rattle.bag_laws.proofs.laws.merging_is_associative.Goals as goal

pub returns : goal.returns
returns c = merged_assoc c.args.calls.now c.args.row.now c.args.second.now c.args.third.now
