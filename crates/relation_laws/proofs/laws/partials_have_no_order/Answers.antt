use Rattle.relation_laws.proofs.PartialOrderLemmas.{partial_of-same}
use Rattle.relation_laws.proofs.laws.partials_have_no_order.Goals as goal

pub returns : goal.returns
returns c = partial_of-same c.args.calls.now c.args.rows.now c.args.others.now c.requires
