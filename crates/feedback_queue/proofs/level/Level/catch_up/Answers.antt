use Rattle.std.proofs.Common.{rules, ap, ◌*◌, ◌+◌, ◌-◌, ◌/◌, ◌∙◌, ◌≤◌, ◌^◌, max, subst, sym}
use Rattle.feedback_queue.proofs.LevelLemmas.{raised_within}
use Rattle.feedback_queue.proofs.level.Level.catch_up.Goals as goal

pub invariant_of-self : goal.invariant_of-self
invariant_of-self g c =
    let n = c.self.inside.number in
    let turn = c.turn_weight-turn.ensures.value ∙ sym (ap (λ l. 2 ^ l.number) c.self.view_is) in
    let is = c.max-self-inside.ensures ∙ ap (λ k. max c.self.inside.turns ((c.in-Some.best.measure + (k - 1)) / k)) turn in
    (c.self.invariant.0, subst (λ t. t * 2 ^ n ≤ 2 ^ 63) (sym is) (raised_within c.self.inside.turns c.in-Some.best.measure n c.self.invariant.0 c.self.invariant.1 (search rules)))
