use Rattle.topn_sort.proofs.BufferLemmas.{part-fit}
use Rattle.topn_sort.proofs.topn.TopRows.candidates.Goals as goal

pub returns-clause-fit : goal.returns-clause-fit
returns-clause-fit c = part-fit c.in_ok-earlier.earlier c.in_ok-rows.rows _ c.in_ok-earlier.ensures c.in_ok-rows.ensures.fit
