use Rattle.source_laws.proofs.TakeLemmas.{local_edge_hop}
use Rattle.source_laws.proofs.laws.local_edges_pass.Goals as goal

pub returns : goal.returns
returns c = local_edge_hop
