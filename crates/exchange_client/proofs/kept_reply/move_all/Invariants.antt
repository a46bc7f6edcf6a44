use Rattle.std.proofs.Common.{◌≡◌, ◌++◌, length}
use Rattle.exchange_client.proofs.kept_reply.move_all.Given as goal

-- what was moved, and what is left
abbrev pub invariant-loop-page : goal.invariant-loop-page
invariant-loop-page l = l.kept.items ++ l.pages ≡ l.fn.kept.items ++ l.fn.pages

abbrev pub decreases-loop-page : goal.decreases-loop-page
decreases-loop-page l = length l.pages
