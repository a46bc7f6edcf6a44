use Rattle.std.proofs.Common.{◌≡◌, take}
use Rattle.column_moves.specs.Joined.{joined}
use Rattle.column_moves.proofs.behind.append_each.Given as goal

abbrev pub invariant-loop-place : goal.invariant-loop-place
invariant-loop-place l = l.columns.items ≡ joined l.initial.columns.items (take l.place l.others)
