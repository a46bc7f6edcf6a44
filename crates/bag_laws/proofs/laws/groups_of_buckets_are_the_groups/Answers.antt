use Rattle.bag_laws.proofs.LawLemmas.{groups-by_columns}
use Rattle.bag_laws.proofs.laws.groups_of_buckets_are_the_groups.Goals as goal

pub returns : goal.returns
returns c = groups-by_columns c.args.types.now c.args.keys.now c.args.calls.now c.args.places.now c.args.tasks c.requires.keyed c.requires.some c.requires.among
