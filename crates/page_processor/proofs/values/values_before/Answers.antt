use Rattle.std.proofs.Common.{◌≡◌, ◌∙◌, ap, take}
use Rattle.page_processor.proofs.PositionLemmas.{failed_kept, failed_values, found_kept, found_values}
use Rattle.page_processor.specs.Positions.{index_of}
use Rattle.sql_exprs.specs.Forms.{form_view}
use Rattle.page_processor.proofs.values.values_before.Goals as goal

pub returns-in-Ok-clause-values : goal.returns-in-Ok-clause-values
returns-in-Ok-clause-values c =
    found_values c.args.page.now.types (form_view c.args.expr.now) c.args.page.now.rows c.args.positions.now.items c.in-Ok.block c.in-Ok.ensures.kind
    (rw c.as_slice.ensures.value at c.in-Ok.ensures.cells)

pub returns-in-Ok-clause-kept : goal.returns-in-Ok-clause-kept
returns-in-Ok-clause-kept c =
    found_kept c.args.page.now.types (form_view c.args.expr.now) c.args.page.now.rows c.args.positions.now.items c.in-Ok.block.cells
    (rw c.as_slice.ensures.value at c.in-Ok.ensures.cells)

cut : (c : goal.In_ok-calm_values-in-Err-At) → c.truncate.new.self.items ≡ take (index_of c.in-Err-At.position c.args.positions.now.items) c.args.positions.now.items
cut c =
    c.truncate.ensures.items ∙ ap (λ n. take n c.args.positions.now.items)
    (c.index_of.ensures ∙ ap (index_of c.in-Err-At.position) c.as_slice-in-Err-At.ensures.value)

pub returns-in_ok-calm_values-in-Err-At-clause-values : goal.returns-in_ok-calm_values-in-Err-At-clause-values
returns-in_ok-calm_values-in-Err-At-clause-values c =
    failed_values c.args.page.now.types (form_view c.args.expr.now) c.args.page.now.rows c.args.positions.now.items c.truncate.new.self.items
    c.in-Err-At.position c.in-Err-At.kind c.in_ok-calm_values-in-Err-At.field-0
    (rw (c.in-Err-At.field-0-is, c.as_slice.ensures.value) at c.in-Err-At.ensures.cells) (cut c) c.in_ok-calm_values-in-Err-At.ensures.kind
    (rw c.as_slice-in-Err-At-2.ensures.value at c.in_ok-calm_values-in-Err-At.ensures.cells)

pub returns-in_ok-calm_values-in-Err-At-clause-kept : goal.returns-in_ok-calm_values-in-Err-At-clause-kept
returns-in_ok-calm_values-in-Err-At-clause-kept c =
    failed_kept c.args.page.now.types (form_view c.args.expr.now) c.args.page.now.rows c.args.positions.now.items c.truncate.new.self.items
    c.in-Err-At.position c.in-Err-At.kind (rw (c.in-Err-At.field-0-is, c.as_slice.ensures.value) at c.in-Err-At.ensures.cells) (cut c)
