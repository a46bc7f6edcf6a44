use Rattle.std.proofs.Common.{◌≡◌, ◌≤◌, ◌^◌, length, drop}
use Rattle.std.specs.Prelude.{IfSome}
use Rattle.feedback_queue.specs.Levels.{weight_waited}
use Rattle.feedback_queue.specs.Picks.{best_from}
use Rattle.feedback_queue.proofs.levels.next.Given as goal

abbrev pub invariant-loop-place : goal.invariant-loop-place
invariant-loop-place g l =
    (l.place ≤ length l.fn.levels)
    × (l.best ≡ best_from weight_waited l.place (drop l.place l.fn.levels))
    × IfSome l.best (λ best. best.measure ≤ 2 ^ 63)

abbrev pub decreases-loop-place : goal.decreases-loop-place
decreases-loop-place g l = l.place
