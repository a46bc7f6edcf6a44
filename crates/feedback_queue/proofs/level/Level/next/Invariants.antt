use Rattle.std.proofs.Common.{◌≡◌, ◌≤◌, length, drop}
use Rattle.feedback_queue.specs.Levels.{work_of}
use Rattle.feedback_queue.specs.Picks.{best_from}
use Rattle.feedback_queue.proofs.level.Level.next.Given as goal

abbrev pub invariant-loop-place : goal.invariant-loop-place
invariant-loop-place g l = (l.place ≤ length l.fn.self.waiting) × (l.best ≡ best_from work_of l.place (drop l.place l.fn.self.waiting))

abbrev pub decreases-loop-place : goal.decreases-loop-place
decreases-loop-place g l = l.place
