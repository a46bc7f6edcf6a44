use Rattle.std.proofs.Common.{ap, ◌∙◌, sym, map, w64}
use lib.Signed.{lt_z, le_z}
use mir.Val.{to_z}
use Rattle.column_exprs.specs.declared.compare.Compare.TheVariants as compare
use Rattle.column_exprs.specs.Lanes.{lane, truths}
use Rattle.column_exprs.proofs.LaneLemmas.{held_equal, held_unequal, held_ordered, less_is, less_equal_is, greater_turned, greater_equal_turned}
use Rattle.column_exprs.proofs.lanes.held.Goals.{in-Equal, in-Unequal, in-Less, in-LessEqual, in-Greater, in-GreaterEqual}
use Rattle.column_exprs.proofs.lanes.held.Goals as goal

pub returns : goal.returns
returns c =
    let a = c.args.a in
    let b = c.args.b in
    let p = c.requires.left in
    let q = c.requires.right in
    elim c.match-op.branch [
      | in-Equal w ↦ ap (map (to_z w64)) w.result-is ∙ held_equal a b p q ∙ ap (λ op. map lane (truths op a b)) (sym w.in-Equal.is)
      | in-Unequal w ↦ ap (map (to_z w64)) w.result-is ∙ held_unequal a b p q ∙ ap (λ op. map lane (truths op a b)) (sym w.in-Unequal.is)
      | in-Less w ↦ ap (map (to_z w64)) w.result-is ∙ held_ordered a b p q lt_z compare.Less less_is ∙ ap (λ op. map lane (truths op a b)) (sym w.in-Less.is)
      | in-LessEqual w ↦ ap (map (to_z w64)) w.result-is ∙ held_ordered a b p q le_z compare.LessEqual less_equal_is ∙ ap (λ op. map lane (truths op a b)) (sym w.in-LessEqual.is)
      | in-Greater w ↦ ap (map (to_z w64)) w.result-is ∙ held_ordered b a q p lt_z compare.Less less_is ∙ ap (map lane) (greater_turned a b) ∙ ap (λ op. map lane (truths op a b)) (sym w.in-Greater.is)
      | in-GreaterEqual w ↦ ap (map (to_z w64)) w.result-is ∙ held_ordered b a q p le_z compare.LessEqual less_equal_is ∙ ap (map lane) (greater_equal_turned a b) ∙ ap (λ op. map lane (truths op a b)) (sym w.in-GreaterEqual.is)
    ]
