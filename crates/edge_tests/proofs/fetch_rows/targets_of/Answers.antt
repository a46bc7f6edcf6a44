use Rattle.std.proofs.Common.{◌≡◌, [], ◌∷◌, rules, subst}
use Rattle.std.specs.Prelude.{All}
use Rattle.std.specs.Vec.Iter.{into_iter_items}
use Rattle.std.proofs.lemmas.List.Elements.{All-tail}
use Rattle.output_buffer.specs.Seats.{GatherPutState}
use Rattle.edge_tests.proofs.fetch_rows.targets_of.Goals as goal

pub loop-seat-preserved : goal.loop-seat-preserved
loop-seat-preserved c =
    let before = into_iter_items c.loop-seat.seat-iterator in
    let after = into_iter_items c.next.new.self in
    let step : before ≡ c.in-Some.seat ∷ after = search rules in
    All-tail (λ (s : GatherPutState). s.put ≡ []) c.in-Some.seat after (subst (All (λ (s : GatherPutState). s.put ≡ [])) step c.loop-seat.invariant)
