use Rattle.std.proofs.Common.{sym, subst}
use Rattle.std.specs.Prelude.{All}
use Rattle.driver_tests.proofs.EdgeLemmas.{IsNewPut, all_new}
use Rattle.driver_tests.proofs.halves.say.Goals as goal

pub add_givers-requires : goal.add_givers-requires
add_givers-requires g c = subst (All IsNewPut) (sym c.in_ok-puts.ensures.puts) (all_new c.args.edge.now.edge c.args.edge.now.putters)
