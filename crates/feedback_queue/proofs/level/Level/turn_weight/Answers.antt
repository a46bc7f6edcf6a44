use Rattle.std.proofs.Common.{rules, sym, subst, ◌≤◌}
use Rattle.feedback_queue.specs.Levels.{LevelState}
use Rattle.feedback_queue.proofs.LevelLemmas.{power_few}
use Rattle.feedback_queue.proofs.level.Level.turn_weight.Goals as goal

pub returns-clause-value : goal.returns-clause-value
returns-clause-value g c = search rules

pub returns-clause-few : goal.returns-clause-few
returns-clause-few g c =
    subst (λ n. n ≤ 16) (sym (returns-clause-value g c)) (power_few _ (subst (λ (l : LevelState _). l.number ≤ 4) c.self.view_is c.self.invariant.0))
