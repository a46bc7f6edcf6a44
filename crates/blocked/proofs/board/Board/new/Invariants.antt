use Rattle.std.proofs.Common.{◌≡◌, length}
use Rattle.blocked.proofs.board.Board.new.Given as goal

-- one bell for each number so far
abbrev pub invariant-loop : goal.invariant-loop
invariant-loop g l = (length l.list.items ≡ l.counter) × (l.bells ≡ l.fn.bells)
