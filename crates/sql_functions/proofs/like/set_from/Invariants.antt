use Rattle.std.proofs.Common.{◌≡◌, ◌++◌, drop, false}
use Rattle.sql_functions.specs.LikeRows.{set_from}
use Rattle.sql_functions.proofs.like.set_from.Given as goal

abbrev pub invariant-loop-set : goal.invariant-loop-set
invariant-loop-set l = l.next.items ++ set_from l.seen (drop l.set-index l.row) ≡ set_from false l.row
