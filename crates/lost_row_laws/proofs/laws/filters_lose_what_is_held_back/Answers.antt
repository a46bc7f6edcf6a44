use Rattle.lost_row_laws.proofs.DomainLemmas.{lost_by_all}
use Rattle.lost_row_laws.proofs.laws.filters_lose_what_is_held_back.Goals as goal

pub returns : goal.returns
returns c = λ mode sieves types filters among fit is. lost_by_all mode sieves types filters among c.args.kept.now c.args.rows.now fit is
