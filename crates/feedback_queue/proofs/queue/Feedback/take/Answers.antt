use Rattle.std.proofs.Common.{◌≡◌, [], refl, subst, sym}
use Rattle.std.specs.Prelude.{MatchOption}
use Rattle.feedback_queue.specs.Queue.{FeedbackState, IsTaken, all_waiting}
use Rattle.feedback_queue.proofs.ChangeLemmas.{none_held, taken_by}
use Rattle.feedback_queue.proofs.queue.Feedback.take.Goals as goal

pub returns-in-Some : goal.returns-in-Some
returns-in-Some g c =
    let new : FeedbackState _ = record { levels = c.take_at.new.levels } in
    subst (λ (q : FeedbackState _). MatchOption c.take_at.result ((all_waiting q ≡ []) × (new ≡ q)) (λ taken. IsTaken q taken new)) c.self.view_is
    (taken_by c.take_at.result (record { levels = c.self.inside.levels }) new c.in-Some.best (sym c.in-Some.ensures.best) c.take_at.ensures.taken)

pub returns-in-None : goal.returns-in-None
returns-in-None g c =
    (subst (λ (q : FeedbackState _). all_waiting q ≡ []) c.self.view_is (none_held (record { levels = c.self.inside.levels }) (sym c.in-None.ensures.best)), refl)
