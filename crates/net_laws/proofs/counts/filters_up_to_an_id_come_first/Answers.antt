use Rattle.net_laws.proofs.IdLemmas.{first_by_id}
use Rattle.net_laws.proofs.counts.filters_up_to_an_id_come_first.Goals as goal

pub returns : goal.returns
returns c = first_by_id
