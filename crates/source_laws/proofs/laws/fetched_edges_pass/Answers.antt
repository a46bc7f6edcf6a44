use Rattle.source_laws.proofs.TakeLemmas.{fetched_edge_hop}
use Rattle.source_laws.proofs.laws.fetched_edges_pass.Goals as goal

pub returns : goal.returns
returns c = fetched_edge_hop
