use Rattle.std.proofs.Common.{◌≡◌, ◌<◌, length, map, ap, ◌∙◌, arith}
use Rattle.std.proofs.lemmas.List.{length-map}
use Rattle.accumulators.specs.KeptColumns.{IsLong, begun_behind, first_kept}
use Rattle.accumulators.proofs.StateLemmas.{next-added, next-as_before, next-can, next-others, set-stays, written-back}
use Rattle.accumulators.proofs.call_columns.begin_each_at.Goals as goal

pub begin-requires-clause-long : goal.begin-requires-clause-long
begin-requires-clause-long c =
    next-as_before (IsLong c.args.place) c.loop-column.column-items c.deref_mut-column-items.result.now c.loop-column.column-index c.column-item.result c.loop-column.invariant.others (omega arith) c.loop-column.invariant.long

pub returns-in_err-begin-clause-first : goal.returns-in_err-begin-clause-first
returns-in_err-begin-clause-first c =
    let items = c.loop-column.column-items in
    let at = c.loop-column.column-index in
    let d = c.column-item.result in
    let whole = c.args.columns.now.items in
    let same : c.deref_mut-column-items.result.now ≡ whole = c.deref_mut-column-items.ensures.value in
    let long : c.args.columns.now.len ≡ length whole = omega (arith, c.args.columns.now.ok.0) in
    written-back (first_kept c.args.place) whole _ c.args.columns.now.len long (set-stays (first_kept c.args.place) items at c.begin.new.self d c.begin.ensures.first ∙ c.loop-column.invariant.first ∙ ap (map (first_kept c.args.place)) same)

pub loop-column-preserved : goal.loop-column-preserved
loop-column-preserved c =
    let items = c.loop-column.column-items in
    let before = c.deref_mut-column-items.result.now in
    let at = c.loop-column.column-index in
    let d = c.column-item.result in
    let i = c.loop-column.invariant in
    let within : at < length items = omega arith in
    let x = c.begin.new.self in
    let level : length items ≡ length before = omega (arith, ap length i.first, length-map items (first_kept c.args.place), length-map before (first_kept c.args.place)) in
    record {
      begun = next-added items before at x d i.others within level (begun_behind c.args.place) c.in_ok-begin.ensures.ok i.begun;
      first = set-stays (first_kept c.args.place) items at x d c.begin.ensures.first ∙ i.first;
      others = next-others items before at x d i.others within level;
      long = next-can items before at x d i.others within level (IsLong c.args.place) i.long;
    }
