use Rattle.std.proofs.lemmas.Option.{slice_get-get_or}
use Rattle.feedback_queue.proofs.ChangeLemmas.{map-set_same, number_taken, took_at}
use Rattle.feedback_queue.proofs.levels.take_at.Goals as goal

pub returns-clause-taken : goal.returns-clause-taken
returns-clause-taken g c =
    let there = slice_get-get_or c.args.levels.now c.args.place c.index-levels-place.result c.requires in
    took_at c.take.result c.args.levels.now c.args.place _ c.take.new.self there c.take.ensures

pub returns-clause-numbers : goal.returns-clause-numbers
returns-clause-numbers g c =
    let there = slice_get-get_or c.args.levels.now c.args.place c.index-levels-place.result c.requires in
    map-set_same (λ level. level.number) c.args.levels.now c.args.place _ c.take.new.self there
    (number_taken c.take.result _ c.take.new.self c.take.ensures)
