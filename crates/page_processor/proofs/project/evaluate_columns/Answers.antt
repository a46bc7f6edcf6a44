use Rattle.std.proofs.Common.{◌≡◌, ◌∙◌, ◌+◌, ◌∷◌, List, ap, sym, drop, map, subst, length, arith, None}
use Rattle.std.specs.List.{range_with_len}
use Rattle.std.proofs.lemmas.List.{drop_all, drop_more}
use Rattle.sql_exprs.specs.Forms.{Form, form_view}
use Rattle.sql_values.specs.Blocks.{TypedCells}
use Rattle.page_processor.specs.declared.values.Values.{Values}
use Rattle.page_processor.proofs.ProjectLemmas.{SoFar, cut_to, is_evaluated, so_far_more, so_far_none}
use Rattle.page_processor.proofs.project.evaluate_columns.Goals as goal

pub loop-column-init : goal.loop-column-init
loop-column-init c =
    subst (λ (bs : List TypedCells). SoFar c.args.page.now.types c.args.page.now.rows (map form_view c.args.columns.now) (map form_view c.args.columns.now) c.in_ok-positions.positions.items bs None)
    (sym c.in_ok-blocks.ensures.items)
    (so_far_none c.args.page.now.types c.args.page.now.rows (map form_view c.args.columns.now) c.in_ok-positions.positions.items
    (c.in_ok-positions.ensures ∙ ap (range_with_len 0) c.len.ensures.len))

left_is : (c : goal.After-or-failure) → map form_view (drop c.loop-column.column-index c.args.columns.now)
    ≡ form_view c.column-item.result ∷ map form_view (drop (c.loop-column.column-index + 1) c.args.columns.now)
left_is c =
    ap (map form_view) (drop_more c.args.columns.now c.loop-column.column-index c.column-item.result c.loop-column-test.true)
    ∙ ap (λ (f : Form). f ∷ map form_view (drop (c.loop-column.column-index + 1) c.args.columns.now)) (ap form_view (sym c.column-item.is))

pub loop-column-preserved : goal.loop-column-preserved
loop-column-preserved c =
    rw (c.or-failure.ensures, c.in_ok-push.ensures.items)
    (so_far_more c.args.page.now.types c.args.page.now.rows (map form_view c.args.columns.now) (map form_view (drop c.loop-column.column-index c.args.columns.now))
    (map form_view (drop (c.loop-column.column-index + 1) c.args.columns.now)) (form_view c.column-item.result)
    c.loop-column.positions.items c.values_before.new.positions.items c.loop-column.blocks.items c.in_ok-values.values.block c.loop-column.failure c.in_ok-values.values.failure
    c.loop-column.invariant (left_is c) c.in_ok-values.ensures.kept
    (ap (λ (v : Values). v.block) c.in_ok-values.ensures.values) (ap (λ (v : Values). v.failure) c.in_ok-values.ensures.values))

count : (c : goal.After-drop-positions-2) → c.len-2.result ≡ length c.loop-column.positions.items
count c = omega (arith, c.len-2.ensures)

pub returns-clause-few : goal.returns-clause-few
returns-clause-few c = omega (arith, c.len.ensures.few, c.len.ensures.len)

pub returns-clause-evaluated : goal.returns-clause-evaluated
returns-clause-evaluated c =
    is_evaluated c.args.page.now.types c.args.page.now.rows (map form_view c.args.columns.now) (map form_view (drop c.loop-column.column-index c.args.columns.now))
    c.loop-column.positions.items c.loop-column.blocks.items c.truncate_each.new.blocks.items c.loop-column.failure c.loop-column.invariant
    (ap (map form_view) (drop_all c.loop-column.column-index c.args.columns.now c.loop-column-test.false))
    (c.truncate_each.ensures ∙ ap (λ n. map (cut_to c.args.page.now.types c.args.page.now.rows n) c.loop-column.blocks.items) (count c))
