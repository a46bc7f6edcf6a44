use Rattle.bag_laws.proofs.PieceLemmas.{same-finals_of}
use Rattle.bag_laws.proofs.BagLemmas.{same_from_bag}
use Rattle.bag_laws.proofs.laws.final_rows_have_no_order.Goals as goal

pub returns : goal.returns
returns c = same-finals_of c.args.types.now c.args.calls.now c.args.width (same_from_bag c.args.rows.now c.args.others.now c.requires)
