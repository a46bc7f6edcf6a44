use Rattle.std.proofs.Common.{◌≡◌}
use Rattle.std.proofs.lemmas.Option.{slice_get-get_or}
use Rattle.feedback_queue.specs.Queue.{offered_to}
use Rattle.feedback_queue.proofs.ChangeLemmas.{map-set_same, number_after, on_err, on_ok, set_changes, set_same}
use Rattle.feedback_queue.proofs.levels.offer_at.Goals as goal

pub returns-clause-ok : goal.returns-clause-ok
returns-clause-ok g c =
    let there = slice_get-get_or c.args.levels.now c.args.place c.index-levels-place.result c.requires.there in
    on_ok c.offer.result (set_changes (offered_to c.args.best (record { work = c.args.work; waiter = c.args.waiter })) c.args.levels.now c.args.place _ c.offer.new.self there) c.offer.ensures.ok

pub returns-clause-err : goal.returns-clause-err
returns-clause-err g c =
    let there = slice_get-get_or c.args.levels.now c.args.place c.index-levels-place.result c.requires.there in
    on_err c.offer.result (λ failed e. (e.0, set_same c.args.levels.now c.args.place _ c.offer.new.self there e.1)) c.offer.ensures.err

pub returns-clause-numbers : goal.returns-clause-numbers
returns-clause-numbers g c =
    let there = slice_get-get_or c.args.levels.now c.args.place c.index-levels-place.result c.requires.there in
    map-set_same (λ level. level.number) c.args.levels.now c.args.place _ c.offer.new.self there
    (number_after (λ failed. failed.value ≡ c.args.waiter) c.offer.result c.args.best (record { work = c.args.work; waiter = c.args.waiter }) _ c.offer.new.self c.offer.ensures.ok c.offer.ensures.err)
