use Rattle.std.proofs.Common.{◌≡◌, ◌<◌, length, map, ap, ◌∙◌, arith}
use Rattle.std.proofs.lemmas.List.{length-map}
use Rattle.accumulators.specs.KeptColumns.{CanTakeAt, added_at, but_kept}
use Rattle.accumulators.proofs.StateLemmas.{next-added, next-as_before, next-can, next-fits_all, next-others, set-stays, written-back}
use Rattle.accumulators.proofs.call_columns.take_each_at.Goals as goal

pub take-requires : goal.take-requires
take-requires g c =
    next-as_before (CanTakeAt c.args.place (g.C.Cells.values c.args.cells.now)) c.loop-column.column-items c.deref_mut-column-items.result.now c.loop-column.column-index c.column-item.result
    c.loop-column.invariant.others (omega arith) c.loop-column.invariant.can

pub returns-then-not-take-clause-others : goal.returns-then-not-take-clause-others
returns-then-not-take-clause-others g c =
    let items = c.loop-column.column-items in
    let at = c.loop-column.column-index in
    let d = c.column-item.result in
    let whole = c.args.columns.now.items in
    let same : c.deref_mut-column-items.result.now ≡ whole = c.deref_mut-column-items.ensures.value in
    let long : c.args.columns.now.len ≡ length whole = omega (arith, c.args.columns.now.ok.0) in
    written-back (but_kept c.args.place) whole _ c.args.columns.now.len long (set-stays (but_kept c.args.place) items at c.take.new.self d c.take.ensures.others ∙ c.loop-column.invariant.kept ∙ ap (map (but_kept c.args.place)) same)

pub loop-column-preserved : goal.loop-column-preserved
loop-column-preserved g c =
    let items = c.loop-column.column-items in
    let before = c.deref_mut-column-items.result.now in
    let at = c.loop-column.column-index in
    let d = c.column-item.result in
    let i = c.loop-column.invariant in
    let within : at < length items = omega arith in
    let x = c.take.new.self in
    let row = g.C.Cells.values c.args.cells.now in
    let level : length items ≡ length before = omega (arith, ap length i.kept, length-map items (but_kept c.args.place), length-map before (but_kept c.args.place)) in
    record {
      added = next-added items before at x d i.others within level (added_at c.args.place row) (c.take.ensures.value c.if-not-take.false) i.added;
      fits = i.fits ∙ next-fits_all items before at x d i.others within level row (c.take.ensures.fits c.if-not-take.false);
      kept = set-stays (but_kept c.args.place) items at x d c.take.ensures.others ∙ i.kept;
      others = next-others items before at x d i.others within level;
      can = next-can items before at x d i.others within level (CanTakeAt c.args.place row) i.can;
    }
