use Rattle.std.proofs.Common.{◌≡◌, ◌++◌, [], Some, map, ap, sym, ◌∙◌, arith}
use Rattle.std.specs.Vec.Iter.{into_iter_items}
use Rattle.std.proofs.lemmas.List.{append-nil, nil_from_length}
use Rattle.net_parts.proofs.slots.Slots.into_items.Goals as goal

pub returns : goal.returns
returns g c =
    let items = map Some c.loop-slot.items.items in
    let left = c.loop-slot.slot-iterator in
    let none : into_iter_items left ≡ [] = nil_from_length (into_iter_items left) (omega (arith, c.in-None.ensures.steps.0, left.rest.ok.0)) in
    sym c.loop-slot.invariant ∙ ap (λ l. items ++ l) none ∙ append-nil items
