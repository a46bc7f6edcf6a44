use Rattle.std.proofs.Common.{arith, rules, ◌≡◌, ◌∙◌, ◌++◌, ◌∷◌, [], List, ap, append-nil, append_assoc, subst, sym}
use Rattle.std.proofs.lemmas.List.{nil_from_length}
use Rattle.std.specs.Vec.Iter.{into_iter_items}
use Rattle.driver_loop.specs.Drivers.{DriverState}
use Rattle.net_closing.specs.Left.{WereTaken}
use Rattle.net_closing.proofs.TakenLemmas.{none_taken, taken_more}
use Rattle.net_closing.proofs.parts.take_all.Goals as goal

pub loop-driver-init : goal.loop-driver-init
loop-driver-init g c = (
  [],
  c.into_iter-driver-iterator.ensures.into_iter_gives.0,
  none_taken c.args.notes.now _ c.new.ensures.items c.new-2.ensures.items c.new-3.ensures.items c.new-4.ensures.items c.new-5.ensures.items c.new-6.ensures.items
      c.new-7.ensures.items,
)

pub loop-driver-preserved : goal.loop-driver-preserved
loop-driver-preserved g c =
    let (done, all, taken) = c.loop-driver.invariant in
    let d = c.in-Some.driver in
    let rest : into_iter_items c.loop-driver.driver-iterator ≡ d ∷ into_iter_items c.next.new.self = search rules in
    let told = c.in_ok-take_apart.ensures in (
      done ++ d ∷ [],
      append_assoc done (d ∷ []) (into_iter_items c.next.new.self) ∙ ap (λ (ds : List DriverState). done ++ ds) (sym rest) ∙ all,
      taken_more done d c.args.notes.now c.loop-driver.notes c.take_apart.new.notes c.loop-driver.parts c.take_apart.new.parts taken told.still told.kept told.gained,
    )

pub returns : goal.returns
returns g c =
    let (done, all, taken) = c.loop-driver.invariant in
    let left = c.loop-driver.driver-iterator in
    let none : into_iter_items left ≡ [] = nil_from_length (into_iter_items left) (omega (arith, c.in-None.ensures.steps.0, left.rest.ok.0)) in
    subst (λ (ds : List DriverState). WereTaken ds c.args.notes.now c.loop-driver.notes c.loop-driver.parts)
    (sym (append-nil done) ∙ ap (λ (ds : List DriverState). done ++ ds) (sym none) ∙ all) taken
