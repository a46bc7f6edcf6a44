use Rattle.std.proofs.Common.{◌≡◌, ◌++◌, [], ap, sym, ◌∙◌, arith}
use Rattle.std.specs.Vec.Iter.{into_iter_items}
use Rattle.std.proofs.lemmas.List.{append-nil, nil_from_length}
use Rattle.task_executor.proofs.pooled.drivers_of.Goals as goal

pub returns : goal.returns
returns g c =
    let done = c.loop-one.drivers.items in
    let left = c.loop-one.one-iterator in
    let none : into_iter_items left ≡ [] = nil_from_length (into_iter_items left) (omega (arith, c.in-None.ensures.steps.0, left.rest.ok.0)) in
    sym (append-nil done) ∙ sym (ap (λ l. done ++ l) none) ∙ c.loop-one.invariant
