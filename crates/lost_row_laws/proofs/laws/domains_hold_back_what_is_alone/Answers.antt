use Rattle.lost_row_laws.proofs.DomainLemmas.{alone_by}
use Rattle.lost_row_laws.proofs.laws.domains_hold_back_what_is_alone.Goals as goal

pub returns : goal.returns
returns c = λ k lt is. alone_by c.args.domain.now c.args.on.now k c.args.rows.now lt is
