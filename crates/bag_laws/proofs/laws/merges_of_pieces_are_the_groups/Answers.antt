use Rattle.bag_laws.proofs.PieceLemmas.{finals_of-pieces}
use Rattle.bag_laws.proofs.laws.merges_of_pieces_are_the_groups.Goals as goal

pub returns : goal.returns
returns c = λ pieces. finals_of-pieces c.args.types.now c.args.calls.now c.args.tasks pieces c.args.keys.now
