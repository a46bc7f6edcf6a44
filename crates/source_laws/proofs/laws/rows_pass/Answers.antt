use Rattle.source_laws.proofs.TakeLemmas.{rows_hop}
use Rattle.source_laws.proofs.laws.rows_pass.Goals as goal

pub returns : goal.returns
returns c = rows_hop
