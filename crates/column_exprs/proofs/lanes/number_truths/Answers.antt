use Rattle.std.proofs.Common.{◌≡◌, ◌∙◌, ap, map, length, subst}
use Rattle.std.specs.Prelude.{IfOk}
use Rattle.column_exprs.specs.Lanes.{is_marked, mark, numbers, truths}
use Rattle.column_exprs.proofs.MarkLemmas.{marks_read}
use Rattle.column_exprs.proofs.lanes.number_truths.Goals as goal

pub returns : goal.returns
returns c =
    let xs = c.args.a.now in
    let ts = truths c.args.op xs (numbers c.args.b (length xs)) in
    let e : c.as_slice.result.now ≡ map mark ts = c.as_slice.ensures.value ∙ c.in_ok-marks.ensures in
    subst (λ bs. IfOk c.truths_of_marks.result (λ v. v.items ≡ bs)) (ap (map is_marked) e ∙ marks_read ts) c.truths_of_marks.ensures
