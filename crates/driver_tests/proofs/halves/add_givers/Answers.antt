use Rattle.std.proofs.Common.{◌≡◌, ◌∷◌, rules, subst}
use Rattle.std.specs.Prelude.{All}
use Rattle.std.specs.Vec.Iter.{into_iter_items}
use Rattle.std.proofs.lemmas.List.Elements.{All-tail}
use Rattle.driver_tests.proofs.EdgeLemmas.{IsNewPut}
use Rattle.driver_tests.proofs.halves.add_givers.Goals as goal

pub loop-seat-preserved : goal.loop-seat-preserved
loop-seat-preserved c =
    let before = into_iter_items c.loop-seat.seat-iterator in
    let after = into_iter_items c.next.new.self in
    let step : before ≡ c.in-Some.seat ∷ after = search rules in
    All-tail IsNewPut c.in-Some.seat after (subst (All IsNewPut) step c.loop-seat.invariant)
