use Rattle.std.proofs.Common.{◌≡◌, ◌++◌, ◌∷◌, drop, false}
use Rattle.sql_functions.specs.LikeRows.{moved}
use Rattle.sql_functions.proofs.like.moved.Given as goal

abbrev pub invariant-loop-at : goal.invariant-loop-at
invariant-loop-at l = l.next.items ++ moved l.p (drop l.at l.text) (drop l.at l.row) ≡ false ∷ moved l.p l.text l.row
