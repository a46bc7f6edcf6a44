use Rattle.std.proofs.Common.{◌≡◌, ◌<◌, length, ap, ◌∙◌, arith}
use Rattle.std.proofs.lemmas.List.{length-map}
use Rattle.accumulators.specs.Kept.{Kept, added_row, calls_of, kinds_of}
use Rattle.accumulators.specs.Limits.{CanTake}
use Rattle.accumulators.proofs.StateLemmas.{next-added, next-as_before, next-can, next-fits, next-others, set-stays, written-back}
use Rattle.accumulators.proofs.call_states.take_each.Goals as goal

pub take-requires : goal.take-requires
take-requires g c =
    next-as_before (CanTake (g.C.Cells.values c.args.cells.now)) c.loop-state.state-items c.deref_mut-state-items.result.now c.loop-state.state-index c.state-item.result c.loop-state.invariant.others (omega arith) c.loop-state.invariant.can

pub returns-then-not-take-clause-same : goal.returns-then-not-take-clause-same
returns-then-not-take-clause-same g c =
    let items = c.loop-state.state-items in
    let at = c.loop-state.state-index in
    let d = c.state-item.result in
    let x = c.take.new.self in
    let whole = c.args.states.now.items in
    let same : c.deref_mut-state-items.result.now ≡ whole = c.deref_mut-state-items.ensures.value in
    let long : c.args.states.now.len ≡ length whole = omega (arith, c.args.states.now.ok.0) in (
      written-back (λ (k : Kept). k.call) whole _ c.args.states.now.len long (set-stays (λ (k : Kept). k.call) items at x d c.take.ensures.same.0 ∙ c.loop-state.invariant.calls ∙ ap calls_of same),
      written-back (λ (k : Kept). k.kind) whole _ c.args.states.now.len long (set-stays (λ (k : Kept). k.kind) items at x d c.take.ensures.same.1 ∙ c.loop-state.invariant.kinds ∙ ap kinds_of same),
    )

pub loop-state-preserved : goal.loop-state-preserved
loop-state-preserved g c =
    let items = c.loop-state.state-items in
    let before = c.deref_mut-state-items.result.now in
    let at = c.loop-state.state-index in
    let d = c.state-item.result in
    let x = c.take.new.self in
    let row = g.C.Cells.values c.args.cells.now in
    let i = c.loop-state.invariant in
    let within : at < length items = omega arith in
    let level : length items ≡ length before = omega (arith, ap length i.calls, length-map items (λ (k : Kept). k.call), length-map before (λ (k : Kept). k.call)) in
    record {
      added = next-added items before at x d i.others within level (added_row row) (c.take.ensures.value c.if-not-take.false) i.added;
      fits = i.fits ∙ next-fits items before at x d i.others within level row (c.take.ensures.fits c.if-not-take.false);
      calls = set-stays (λ (k : Kept). k.call) items at x d c.take.ensures.same.0 ∙ i.calls;
      kinds = set-stays (λ (k : Kept). k.kind) items at x d c.take.ensures.same.1 ∙ i.kinds;
      others = next-others items before at x d i.others within level;
      can = next-can items before at x d i.others within level (CanTake row) i.can;
    }
