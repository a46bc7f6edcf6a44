use Rattle.std.proofs.Common.{◌≡◌, ◌⊎◌, ◌∙◌, List, Option, Result, IsOk, true, refl, subst, sym, arith}
use Rattle.blocked.specs.declared.blocked_on.BlockedOn.{BlockedOn}
use Rattle.driver_turns.specs.declared.turns.Turned.{Turned}
use Rattle.operator_core.specs.Answers.{NotMemory}
use Rattle.operator_core.specs.Stages.{last_finished}
use Rattle.operator_core.specs.declared.fault.OpFault.{OpFault}
use Rattle.operator_core.specs.declared.fault.OpFault.TheVariants.{Expr}
use Rattle.stage_moves.proofs.MoveLemmas.{err-err, not-memory_err}
use Rattle.stage_moves.proofs.PlaceLemmas.{AllLater-same, AllLater-then}
use Rattle.driver_turns.proofs.TurnLemmas.{WorkedTo-given, WorkedTo-none, WorkedTo-then, Blocked-all_since, Halted-since, RangDues-alone, SomeFails-after, expr-not-memory, few-step, in-some, told-since}
use Rattle.driver_turns.proofs.turns.turn.Goals as goal

pub loop-init : goal.loop-init
loop-init g c = record {
  worked = λ Y given. WorkedTo-given g.S.Operator _ _ _ _ _ _ Y _ _ _ _ _ c.tell.ensures.rows (WorkedTo-none g.S.Operator _ _ _ Y _ _ given);
  later = AllLater-same g.S.Operator _;
  made = refl;
  target = c.tell.ensures.made;
  same = refl;
  few = omega arith;
  source_looks = omega arith;
  target_looks = c.tell.ensures.looks;
  told = λ was told. told-since _ _ was (subst (λ (ss : List g.row.S.Denot). (g.T.PageTarget.is_told c.args.target.now ≡ true) ⊎ (last_finished g.S.Operator (g.I.PageSource.is_ended c.args.source.now) ss ≡ true))
      c.deref.ensures.value (c.tell.ensures.told told));
  tells = λ over. c.tell.ensures.tells (subst (λ (ss : List g.row.S.Denot). last_finished g.S.Operator (g.I.PageSource.is_ended c.args.source.now) ss ≡ true) (sym c.deref.ensures.value) over);
  bells = λ bell count shown. shown;
  rang = RangDues-alone (g.B.Bells.rang c.args.bells.now) (g.B.Bells.rang c.args.bells.now) (g.I.PageSource.dues c.args.source.now) (g.I.PageSource.dues c.args.source.now) (g.I.PageSource.dues c.args.source.now)
      (g.T.PageTarget.dues c.args.target.now) (g.T.PageTarget.dues c.tell.new.target) (λ bell times rang. rang) (λ bell. refl) c.tell.ensures.dues;
}

pub loop-preserved : goal.loop-preserved
loop-preserved g c = record {
  worked = λ Y given. WorkedTo-then g.S.Operator _ _ _ _ _ _ _ _ Y _ _ _ _ _ _ _ _ _ (c.loop.invariant.worked Y given) (c.take_step-more.ensures.worked (subst NotMemory (sym c.in-Ok-None.is) tt)) c.take_step-more.ensures.misses refl;
  later = AllLater-then g.S.Operator _ _ _ c.loop.invariant.later (c.take_step-more.ensures.later (subst NotMemory (sym c.in-Ok-None.is) tt));
  made = c.take_step-more.ensures.made ∙ c.loop.invariant.made;
  target = c.take_step-more.ensures.target (subst NotMemory (sym c.in-Ok-None.is) tt) ∙ c.loop.invariant.target;
  same = c.loop.invariant.same;
  few = few-step _ _ _ _ _ c.loop.invariant.few (omega (arith, c.saturating_sub-room.ensures, c.from.ensures)) c.take_step-more.ensures.few c.take_step-more.ensures.still;
  source_looks = omega (arith, c.loop.invariant.source_looks, c.take_step-more.ensures.source_looks);
  target_looks = omega (arith, c.loop.invariant.target_looks, c.take_step-more.ensures.target_looks);
  told = λ was. c.take_step-more.ensures.told (subst NotMemory (sym c.in-Ok-None.is) tt) (c.loop.invariant.told was);
  tells = c.take_step-more.ensures.tells (subst (λ (r : Result (Option BlockedOn) OpFault). IsOk r) (sym c.in-Ok-None.is) refl);
  bells = λ bell count shown. c.take_step-more.ensures.bells bell count (c.loop.invariant.bells bell count shown);
  rang = λ bell times rang. c.take_step-more.ensures.rang (subst NotMemory (sym c.in-Ok-None.is) tt) bell times (c.loop.invariant.rang bell times rang);
}

pub returns-in-Ok-Some-clause-worked : goal.returns-in-Ok-Some-clause-worked
returns-in-Ok-Some-clause-worked g c = λ _ Y given.
    WorkedTo-then g.S.Operator _ _ _ _ _ _ _ _ Y _ _ _ _ _ _ _ _ _ (c.loop.invariant.worked Y given) (c.take_step-more.ensures.worked (subst NotMemory (sym c.in-Ok-Some.is) tt)) c.take_step-more.ensures.misses refl

pub returns-in-Ok-Some-clause-later : goal.returns-in-Ok-Some-clause-later
returns-in-Ok-Some-clause-later g c = λ _. AllLater-then g.S.Operator _ _ _ c.loop.invariant.later (c.take_step-more.ensures.later (subst NotMemory (sym c.in-Ok-Some.is) tt))

pub returns-in-Ok-Some-clause-answer : goal.returns-in-Ok-Some-clause-answer
returns-in-Ok-Some-clause-answer g c =
    let blocked = in-some _ _ c.in-Ok-Some.on _ c.in-Ok-Some.is c.in-Ok-Some.field-0-is c.take_step-more.ensures.blocked in
    let unfinished = in-some _ _ c.in-Ok-Some.on _ c.in-Ok-Some.is c.in-Ok-Some.field-0-is c.take_step-more.ensures.unfinished in (
      Blocked-all_since g.S.Operator _ _ _ _ _ _ _ _ _ _ _ c.in-Ok-Some.on c.loop.invariant.later (c.take_step-more.ensures.later (subst NotMemory (sym c.in-Ok-Some.is) tt))
          c.loop.invariant.source_looks c.loop.invariant.target_looks blocked,
      unfinished,
    )

pub returns-in-Err-clause-worked : goal.returns-in-Err-clause-worked
returns-in-Err-clause-worked g c = λ ok Y given.
    WorkedTo-then g.S.Operator _ _ _ _ _ _ _ _ Y _ _ _ _ _ _ _ _ _ (c.loop.invariant.worked Y given)
    (c.take_step-more.ensures.worked (subst NotMemory (sym c.in-Err.is) (not-memory_err (Option BlockedOn) Turned c.in-Err.fault ok))) c.take_step-more.ensures.misses refl

pub returns-in-Err-clause-later : goal.returns-in-Err-clause-later
returns-in-Err-clause-later g c = λ ok. AllLater-then g.S.Operator _ _ _ c.loop.invariant.later
    (c.take_step-more.ensures.later (subst NotMemory (sym c.in-Err.is) (not-memory_err (Option BlockedOn) Turned c.in-Err.fault ok)))

pub returns-in-Err-clause-failure : goal.returns-in-Err-clause-failure
returns-in-Err-clause-failure g c = λ node kind e Y given linked turns.
    let same : c.in-Err.fault ≡ Expr node kind = cc in
    let to = WorkedTo-then g.S.Operator _ _ _ _ _ _ _ _ Y _ _ _ _ _ _ _ _ _ (c.loop.invariant.worked Y given)
    (c.take_step-more.ensures.worked (subst NotMemory (sym c.in-Err.is) (expr-not-memory c.in-Err.fault node kind same))) c.take_step-more.ensures.misses refl in
    SomeFails-after g.S.Operator _ _ _ _ node kind (c.take_step-more.ensures.fault node kind (c.in-Err.is ∙ err-err _ _ e)) (to.went.links linked) (to.went.turns turns)

pub returns-in-Ok-Some-clause-quiet : goal.returns-in-Ok-Some-clause-quiet
returns-in-Ok-Some-clause-quiet g c =
    let halted = in-some _ _ c.in-Ok-Some.on _ c.in-Ok-Some.is c.in-Ok-Some.field-0-is c.take_step-more.ensures.quiet in
    λ untold. Halted-since g.S.Operator _ _ _ _ _ c.in-Ok-Some.on c.loop.invariant.target_looks (halted untold)
