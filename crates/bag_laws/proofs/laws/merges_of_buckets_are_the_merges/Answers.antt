use Rattle.bag_laws.proofs.LawLemmas.{finals-by_columns}
use Rattle.bag_laws.proofs.laws.merges_of_buckets_are_the_merges.Goals as goal

pub returns : goal.returns
returns c = finals-by_columns c.args.types.now c.args.width c.args.calls.now c.args.columns.now c.args.tasks c.requires.keyed c.requires.some c.requires.among
