use Rattle.std.proofs.Common.{◌≡◌, [], ◌∷◌, ◌++◌, length, map, rules, arith, sym, ap, subst, ◌∙◌}
use Rattle.std.specs.Prelude.{All}
use Rattle.std.specs.Vec.Iter.{into_iter_items}
use Rattle.std.proofs.lemmas.List.{append_assoc, length_push}
use Rattle.std.proofs.lemmas.List.Elements.{All-tail}
use Rattle.output_buffer.specs.Seats.{GatherPutState}
use Rattle.driver_ends.specs.Outlets.{new_outlet}
use Rattle.driver_ends.proofs.put_target.put_outlets.Goals as goal

pub loop-seat-preserved : goal.loop-seat-preserved
loop-seat-preserved c =
    let before = into_iter_items c.loop-seat.seat-iterator in
    let after = into_iter_items c.next.new.self in
    let step : before ≡ c.in-Some.seat ∷ after = search rules in
    let put = c.push_reserved.ensures.items ∙ ap (λ l. c.loop-seat.outlets.items ++ l ∷ []) c.new.ensures in
    record {
      room = omega (arith, c.loop-seat.invariant.room, ap length step, ap length put, length_push c.loop-seat.outlets.items (new_outlet c.in-Some.seat), c.push_reserved.ensures.capacity);
      outlets = ap (λ l. l ++ map new_outlet after) put
          ∙ append_assoc c.loop-seat.outlets.items (new_outlet c.in-Some.seat ∷ []) (map new_outlet after)
          ∙ ap (λ l. c.loop-seat.outlets.items ++ map new_outlet l) (sym step) ∙ c.loop-seat.invariant.outlets;
      fresh = All-tail (λ (s : GatherPutState). s.put ≡ []) c.in-Some.seat after (subst (All (λ (s : GatherPutState). s.put ≡ [])) step c.loop-seat.invariant.fresh);
    }
