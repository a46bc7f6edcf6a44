use Rattle.std.proofs.Common.{Option, Result, IsOk, refl, sym, subst, ◌∙◌, arith}
use Rattle.col_pages.specs.Pages.{TypedPage, most_rows}
use Rattle.operator_core.specs.Answers.{NotMemory}
use Rattle.operator_core.specs.declared.fault.OpFault.{OpFault}
use Rattle.stage_moves.proofs.QuietLemmas.{has-room}
use Rattle.stage_moves.proofs.MoveLemmas.{not-memory_err}
use Rattle.stage_moves.proofs.CountLemmas.{Counted-none, Counted-both, few-more}
use Rattle.stage_moves.proofs.PassLemmas.{Passed-none, Passed-then}
use Rattle.stage_moves.proofs.one_pass.move_pages.Goals as goal

pub returns-in-Err-clause-passed : goal.returns-in-Err-clause-passed
returns-in-Err-clause-passed g c = λ ok X Y. Passed-then g.S.Operator _ _ _ X X X Y Y Y _ _ _ (c.loop-place.invariant.0 X Y)
    (c.serve_stage-rows.ensures.passed (subst NotMemory (sym c.in-Err.is) (not-memory_err (Option TypedPage) (Unit {0}) c.in-Err.fault ok)) X Y)

pub returns-in-Err-clause-counts : goal.returns-in-Err-clause-counts
returns-in-Err-clause-counts g c = λ ok X Y. Counted-both g.S.Operator _ _ _ X X X Y Y Y _ _ _ (c.loop-place.invariant.5 X Y)
    (c.serve_stage-rows.ensures.counts (subst NotMemory (sym c.in-Err.is) (not-memory_err (Option TypedPage) (Unit {0}) c.in-Err.fault ok)) X Y) (omega (arith, c.from-moved.ensures))

pub returns-in-Err-clause-few : goal.returns-in-Err-clause-few
returns-in-Err-clause-few g c = few-more c.loop-place.moved c.args.room most_rows c.from.result c.serve_stage-rows.result.rows c.from-moved.result c.loop-place.invariant.4 c.serve_stage-rows.ensures.few
    c.serve_stage-rows.ensures.none c.from.ensures c.from-moved.ensures

pub loop-place-preserved : goal.loop-place-preserved
loop-place-preserved g c = (
  λ X Y. Passed-then g.S.Operator _ _ _ X X X Y Y Y _ _ _ (c.loop-place.invariant.0 X Y) (c.serve_stage-rows.ensures.passed (subst NotMemory (sym c.in-Ok.is) tt) X Y),
  refl,
  refl,
  c.loop-place.invariant.3 ∙ sym c.serve_stage-rows.ensures.len,
  few-more c.loop-place.moved c.args.room most_rows c.from.result c.serve_stage-rows.result.rows c.from-moved.result c.loop-place.invariant.4 c.serve_stage-rows.ensures.few c.serve_stage-rows.ensures.none c.from.ensures c.from-moved.ensures,
  λ X Y. Counted-both g.S.Operator _ _ _ X X X Y Y Y _ _ _ (c.loop-place.invariant.5 X Y) (c.serve_stage-rows.ensures.counts (subst NotMemory (sym c.in-Ok.is) tt) X Y) (omega (arith, c.from-moved.ensures)),
  λ room none. c.serve_stage-rows.ensures.still (has-room c.loop-place.moved c.from.result c.args.room (omega (arith, none, c.from-moved.ensures)) c.from.ensures room)
      (subst (λ (r : Result (Unit {0}) OpFault). IsOk r) (sym c.in-Ok.is) refl) (omega (arith, none, c.from-moved.ensures)) (c.loop-place.invariant.6 room (omega (arith, none, c.from-moved.ensures))),
)

pub loop-place-init : goal.loop-place-init
loop-place-init g c = (
  λ X Y. Passed-none g.S.Operator c.args.stages.now.items X X Y c.args.ended c.args.ended refl (λ e. e),
  refl,
  refl,
  omega (arith, c.len-place-end.ensures),
  omega arith,
  λ X Y. Counted-none g.S.Operator c.args.stages.now.items X X Y refl,
  λ room none. tt,
)
