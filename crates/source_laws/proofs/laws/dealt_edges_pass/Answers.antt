use Rattle.std.proofs.Common.{◌≡◌, true}
use Rattle.source_laws.specs.Edges.{AreTold, rows_for}
use Rattle.source_laws.proofs.TakeLemmas.{dealt_edge_hop}
use Rattle.source_laws.proofs.laws.dealt_edges_pass.Goals as goal

pub returns : goal.returns
returns c = λ putters came ended deal takers first given told kept back taken.
    dealt_edge_hop (rows_for putters) came (ended ≡ true) (AreTold putters) deal takers first given told kept back taken
