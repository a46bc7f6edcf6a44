use Rattle.dyn_filter.proofs.DomainLemmas.{lost_row}
use Rattle.dyn_filter.proofs.laws.a_lost_row_has_no_partner.Goals as goal

pub returns : goal.returns
returns c = lost_row c.args.domain.now c.args.on.now c.args.pair c.args.row.now c.args.rows.now c.requires
