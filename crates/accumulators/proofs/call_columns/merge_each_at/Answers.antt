use Rattle.std.proofs.Common.{◌≡◌, ◌+◌, ◌<◌, ◌≤◌, length, drop, map, refl, ap, ◌∙◌, arith, get_or}
use Rattle.std.proofs.lemmas.List.{length-map}
use Rattle.sql_values.specs.declared.relational.Call.{Call}
use Rattle.sql_values.specs.declared.relational.Call.TheVariants.{CountAll, Count, Sum, Min, Max, Avg}
use Rattle.relation_laws.specs.Partials.{call_width}
use Rattle.accumulators.specs.KeptColumns.{KeptColumn, but_kept, merged_each_at}
use Rattle.accumulators.proofs.StateLemmas.{next-can_merge, next-merged, next-others, set-stays, written-back}
use Rattle.accumulators.proofs.call_columns.merge_each_at.Goals as goal

few-columns : (call : Call) → call_width call ≤ 2
few-columns CountAll = omega arith
few-columns (Count column) = omega arith
few-columns (Sum column) = omega arith
few-columns (Min column) = omega arith
few-columns (Max column) = omega arith
few-columns (Avg column) = omega arith

pub merge-requires-clause-can : goal.merge-requires-clause-can
merge-requires-clause-can g c =
    let items = c.loop-column.column-items in
    let before = c.deref_mut-column-items.result.now in
    let at = c.loop-column.column-index in
    let d = c.column-item.result in
    let i = c.loop-column.invariant in
    let within : at < length items = omega arith in
    let level : length items ≡ length before = omega (arith, ap length i.kept, length-map items (but_kept c.args.place), length-map before (but_kept c.args.place)) in
    let row = g.C.Cells.values c.args.cells.now in
    (next-can_merge c.args.place items before at d d i.others within level row c.loop-column.from (c.loop-column.from + call_width (get_or items at d).call) refl i.can).0

pub returns-in_err-merge-clause-others : goal.returns-in_err-merge-clause-others
returns-in_err-merge-clause-others g c =
    let items = c.loop-column.column-items in
    let at = c.loop-column.column-index in
    let d = c.column-item.result in
    let whole = c.args.columns.now.items in
    let same : c.deref_mut-column-items.result.now ≡ whole = c.deref_mut-column-items.ensures.value in
    let long : c.args.columns.now.len ≡ length whole = omega (arith, c.args.columns.now.ok.0) in
    written-back (but_kept c.args.place) whole _ c.args.columns.now.len long (set-stays (but_kept c.args.place) items at c.merge.new.self d c.merge.ensures.others ∙ c.loop-column.invariant.kept ∙ ap (map (but_kept c.args.place)) same)

pub loop-column-preserved : goal.loop-column-preserved
loop-column-preserved g c =
    let items = c.loop-column.column-items in
    let before = c.deref_mut-column-items.result.now in
    let at = c.loop-column.column-index in
    let d = c.column-item.result in
    let i = c.loop-column.invariant in
    let within : at < length items = omega arith in
    let level : length items ≡ length before = omega (arith, ap length i.kept, length-map items (but_kept c.args.place), length-map before (but_kept c.args.place)) in
    let x = c.merge.new.self in
    let row = g.C.Cells.values c.args.cells.now in
    let from = c.loop-column.from in
    let merged = c.in_ok-merge.ensures.ok in
    let next : from + c.width-from.result ≡ from + call_width (get_or items at d).call = ap (λ n. from + n) (c.width-from.ensures ∙ ap (λ (k : KeptColumn). call_width k.call) merged) in
    record {
      near = omega (arith, i.near, c.width-from.ensures, few-columns c.merge.new.self.call);
      merged = next-merged c.args.place items before at x d i.others within level (merged_each_at c.args.place before (drop c.args.first row)) row from (from + c.width-from.result) next merged i.merged;
      kept = set-stays (but_kept c.args.place) items at x d c.merge.ensures.others ∙ i.kept;
      others = next-others items before at x d i.others within level;
      can = (next-can_merge c.args.place items before at x d i.others within level row from (from + c.width-from.result) next i.can).1;
    }
