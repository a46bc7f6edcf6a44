use Rattle.std.proofs.Common.{sym, subst}
use Rattle.std.specs.Prelude.{All}
use Rattle.driver_tests.proofs.EdgeLemmas.{IsNewPut, all_new}
use Rattle.driver_tests.proofs.edges.gathered_say.Goals as goal

pub add_putters-requires : goal.add_putters-requires
add_putters-requires g c = subst (All IsNewPut) (sym c.in_ok-puts.ensures.puts) (all_new c.args.edge.now.edge c.args.edge.now.putters)
