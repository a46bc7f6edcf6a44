use Rattle.std.proofs.Common.{◌∙◌, length, get_or, rules, FitsSigned, w64}
use Rattle.std.specs.Prelude.{pos}
use Rattle.std.specs.Ordering.{int_cmp}
use Rattle.std.proofs.lemmas.Int.{to_z-of_z}
use Rattle.column_exprs.specs.Comparisons.{holds}
use Rattle.column_exprs.specs.Lanes.{mark, numbers}
use Rattle.column_exprs.proofs.MarkLemmas.{all_marked, numbers_at, numbers_length, numbers_place, one_marked}
use Rattle.column_exprs.proofs.lanes.compare_rest.Goals as goal

pub number-requires : goal.number-requires
number-requires c = numbers_place c.args.b (length c.args.a.now) c.loop-place.place c.requires.right c.loop-place-test.true

pub loop-place-preserved : goal.loop-place-preserved
loop-place-preserved c =
    let op = c.args.op in
    let xs = c.args.a.now in
    let ys = numbers c.args.b (length xs) in
    let k = c.loop-place.place in
    let fits : FitsSigned w64 (get_or xs k (pos 0)) = search rules in
    let number_fits : FitsSigned w64 c.number.result = search rules in
    one_marked op xs ys (numbers_length c.args.b (length xs) c.requires.right) k c.loop-place.out c.mark_at.result c.loop-place-test.true c.loop-place.invariant
    (c.mark_at.ensures
    ∙ (λ i. mark (holds op (int_cmp (to_z-of_z w64 (get_or xs k (pos 0)) fits i) ((to_z-of_z w64 c.number.result number_fits ∙ c.number.ensures ∙ numbers_at c.args.b (length xs) k c.loop-place-test.true) i)))))

pub returns : goal.returns
returns c =
    let xs = c.args.a.now in
    all_marked c.args.op xs (numbers c.args.b (length xs)) (numbers_length c.args.b (length xs) c.requires.right) c.loop-place.place c.loop-place.out c.loop-place-test.false c.loop-place.invariant
