use Rattle.std.proofs.Common.{◌∙◌, ◌<◌, ◌≡◌, length, get_or, sym, ap, arith}
use Rattle.sql_values.specs.declared.value.Value.TheVariants.{Null}
use Rattle.sql_functions.specs.Truth.{is_true}
use Rattle.page_processor.proofs.FilterLemmas.{true_end, true_left, true_taken}
use Rattle.page_processor.proofs.filter.true_positions.Goals as goal
use Rattle.page_processor.proofs.filter.true_positions.Goals.{then-is_true+in_ok-push, else-is_true}

within : (c : goal.Joined-is_true) → c.loop-place.place < length c.args.cells.now.cells
within c = omega (arith, c.requires, c.loop-place-test.true)

told : (c : goal.Joined-is_true) → c.is_true.result ≡ is_true (get_or c.args.cells.now.cells c.loop-place.place Null)
told c = c.is_true.ensures ∙ ap is_true c.cell.ensures

pub loop-place-preserved : goal.loop-place-preserved
loop-place-preserved c = elim c.if-is_true.branch [
  | then-is_true+in_ok-push w ↦
      true_taken c.args.cells.now.cells c.args.positions.now c.loop-place.kept.items c.if-is_true.kept.items c.loop-place.place c.loop-place.invariant
      (within c) c.loop-place-test.true (sym (told c) ∙ w.if-is_true.true) (ap (λ v. v.items) w.kept-is ∙ w.in_ok-push.ensures.items)
  | else-is_true w ↦
      true_left c.args.cells.now.cells c.args.positions.now c.loop-place.kept.items c.if-is_true.kept.items c.loop-place.place c.loop-place.invariant
      (within c) c.loop-place-test.true (sym (told c) ∙ w.if-is_true.false) (ap (λ v. v.items) w.kept-is)
]

pub returns : goal.returns
returns c = true_end c.args.cells.now.cells c.args.positions.now c.loop-place.kept.items c.loop-place.place c.loop-place.invariant c.loop-place-test.false
