use Rattle.std.proofs.Common.{◌≡◌, List, ◌∙◌, subst, sym}
use Rattle.sql_values.specs.declared.types.SqlType.{SqlType}
use Rattle.col_pages.specs.Fits.{IsOfTypes}
use Rattle.plan_trees.specs.Layouts.{layout_types}
use Rattle.operator_tests.proofs.halves.second_half.Goals as goal

pub loop-page-init : goal.loop-page-init
loop-page-init c =
    let layout : c.args.layout.now ≡ layout_types c.in_ok-from_slice.field-0.items c.in_ok-from_slice-3.field-0.items c.in_ok-from_slice-2.field-0.items
    = c.requires.layout
    ∙ (λ i. layout_types (sym c.in_ok-from_slice.ensures.items i) (sym c.in_ok-from_slice-3.ensures.items i) (sym c.in_ok-from_slice-2.ensures.items i)) in
    λ p fit.
    (c.in_ok-op.ensures.takes p).1 (subst (λ (ts : List SqlType). IsOfTypes ts p) layout fit)

pub take_in-requires : goal.take_in-requires
take_in-requires c =
    let page = c.in_ok-copied.field-0 in
    c.loop-page.invariant page c.in_ok-copied.ensures

pub loop-page-preserved : goal.loop-page-preserved
loop-page-preserved c =
    λ p fit. c.take_in.ensures p (fit.of_types ∙ sym c.in_ok-copied.ensures.of_types) (c.loop-page.invariant p fit)
