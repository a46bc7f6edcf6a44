use Rattle.relation_laws.proofs.PartialOrderLemmas.{aggregates_of-same}
use Rattle.relation_laws.proofs.laws.results_have_no_order.Goals as goal

pub returns : goal.returns
returns c = aggregates_of-same c.args.calls.now c.args.types.now c.args.rows.now c.args.others.now c.requires
