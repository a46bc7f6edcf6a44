use Rattle.std.proofs.Common.{[], false, refl, sym, ◌∙◌, arith}
use Rattle.stage_moves.proofs.CountLemmas.{Counted-none, Counted-after}
use Rattle.driver_turns.proofs.TurnLemmas.{WentOn-none, WentOn-then, Blocked-since}
use Rattle.driver_turns.proofs.looks.look_at_stages.Goals as goal

pub loop-place-init : goal.loop-place-init
loop-place-init g c = record {
  end = omega (arith, c.len-place-end.ensures);
  went = λ X Y ended. WentOn-none g.S.Operator c.args.stages.now.items X Y ended;
  counts = λ X Y. Counted-none g.S.Operator c.args.stages.now.items X X Y refl;
  bells = λ bell count shown. shown;
  rang = λ bell times rang. rang;
}

pub returns-in-Ok-Some-clause-went : goal.returns-in-Ok-Some-clause-went
returns-in-Ok-Some-clause-went g c = λ _ X Y ended. WentOn-then g.S.Operator _ _ _ X X X Y Y Y ended ended ended
    (c.loop-place.invariant.went X Y ended) ((c.in-Ok-Some.ensures).went refl X Y ended)

pub returns-in-Ok-Some-clause-counts : goal.returns-in-Ok-Some-clause-counts
returns-in-Ok-Some-clause-counts g c = λ _ X Y. Counted-after g.S.Operator _ _ _ X X Y Y 0 (c.loop-place.invariant.counts X Y) ((c.in-Ok-Some.ensures).counts refl X Y)

pub returns-in-Ok-Some-clause-blocked : goal.returns-in-Ok-Some-clause-blocked
returns-in-Ok-Some-clause-blocked g c =
    let blocked = rw c.in-Ok-Some.field-0-is at (c.in-Ok-Some.ensures).blocked in
    Blocked-since g.S.Operator _ _ _ _ c.in-Ok-Some.on (c.loop-place.invariant.went [] [] false).later ((c.in-Ok-Some.ensures).went refl [] [] false).later blocked

pub loop-place-preserved : goal.loop-place-preserved
loop-place-preserved g c = record {
  end = c.loop-place.invariant.end ∙ sym (c.in-Ok-None.ensures).len;
  went = λ X Y ended. WentOn-then g.S.Operator _ _ _ X X X Y Y Y ended ended ended (c.loop-place.invariant.went X Y ended) ((c.in-Ok-None.ensures).went refl X Y ended);
  counts = λ X Y. Counted-after g.S.Operator _ _ _ X X Y Y 0 (c.loop-place.invariant.counts X Y) ((c.in-Ok-None.ensures).counts refl X Y);
  bells = λ bell count shown. (c.in-Ok-None.ensures).bells bell count (c.loop-place.invariant.bells bell count shown);
  rang = λ bell times rang. (c.in-Ok-None.ensures).rang bell times (c.loop-place.invariant.rang bell times rang);
}
