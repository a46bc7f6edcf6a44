use Rattle.std.proofs.Common.{rules, ◌≡◌, ◌≤◌, ◌+◌, ◌∙◌, sym, length, true, false}
use Rattle.stage_moves.proofs.CountLemmas.{Counted-after}
use Rattle.stage_moves.proofs.PassLemmas.{Passed-served}
use Rattle.stage_moves.proofs.QuietLemmas.{Still-end}
use Rattle.stage_moves.proofs.one_pass.serve_stage.Goals.{then-not-has_room-via-then-not-has_room, then-not-has_room-via-else-not-has_room+then-place-len}
use Rattle.stage_moves.proofs.one_pass.serve_stage.Goals as goal

pub returns-clause-counts : goal.returns-clause-counts
returns-clause-counts g c = λ ok X Y. Counted-after g.S.Operator c.args.stages.now.items c.pass_end.new.stages.items c.move_page.new.stages.items X X Y Y _
    (c.pass_end.ensures.counts X Y) (c.move_page.ensures.counts ok X Y)

pub returns-clause-passed : goal.returns-clause-passed
returns-clause-passed g c = λ ok X Y. Passed-served g.S.Operator c.args.stages.now.items c.pass_end.new.stages.items c.move_page.new.stages.items X Y c.args.ended
    c.pass_end.ensures.links c.pass_end.ensures.turns c.pass_end.ensures.made c.pass_end.ensures.same (c.move_page.ensures.moved ok)

pub returns-then-not-has_room-clause-still : goal.returns-then-not-has_room-clause-still
returns-then-not-has_room-clause-still g c = λ room _ _ still.
    let last : length c.pass_end.new.stages.items ≤ c.args.place + 1 = elim c.then-not-has_room.branch [
      | then-not-has_room-via-then-not-has_room w ↦ (let none : c.args.has_room ≡ false = search rules in absurd (let clash : false ≡ true = sym none ∙ room in cc))
      | then-not-has_room-via-else-not-has_room+then-place-len w ↦ search rules
    ] in
    Still-end g.S.Operator c.pass_end.new.stages.items c.args.place last (c.pass_end.ensures.still still)
