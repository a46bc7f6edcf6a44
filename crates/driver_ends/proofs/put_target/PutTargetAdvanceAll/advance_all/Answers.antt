use Rattle.std.proofs.Common.{◌+◌, ◌<◌, length, set, rules, arith, refl, sym, subst, ◌∙◌}
use Rattle.std.proofs.Math.Seq.{map-set_same}
use Rattle.std.proofs.lemmas.Grind.{drop_more_same}
use Rattle.std.proofs.lemmas.List.{drop-set-lt}
use Rattle.std.proofs.lemmas.List.Elements.{All-set}
use Rattle.driver_ends.specs.Outlets.{OutletInOrder, outlet_kept}
use Rattle.driver_ends.specs.Targets.{fulls_of}
use Rattle.driver_ends.proofs.TargetLemmas.{fulls_more, rang_more}
use Rattle.driver_ends.proofs.WaitLemmas.{WaitsSo, tried_more, waits_all, waits_more}
use Rattle.driver_ends.proofs.put_target.PutTargetAdvanceAll.advance_all.Goals as goal

pub returns-in_err-on-clause-kept : goal.returns-in_err-on-clause-kept
returns-in_err-on-clause-kept g c =
    map-set_same (outlet_kept c.args.is_told) c.loop-place.outlets c.loop-place.place c.advance_as_told.new.self c.index-outlets-place.result c.in_err-on.ensures.kept ∙ c.loop-place.invariant.kept

pub returns-in_err-on-clause-order : goal.returns-in_err-on-clause-order
returns-in_err-on-clause-order g c =
    All-set OutletInOrder c.loop-place.outlets c.loop-place.place c.advance_as_told.new.self c.advance_as_told.ensures.order c.loop-place.invariant.order

pub returns-in_err-on-clause-fulls : goal.returns-in_err-on-clause-fulls
returns-in_err-on-clause-fulls g c =
    fulls_more (fulls_of c.args.outlets.now) c.loop-place.outlets c.loop-place.place c.advance_as_told.new.self c.index-outlets-place.result (omega arith) c.loop-place.invariant.fulls c.advance_as_told.ensures.fulls

pub loop-place-preserved : goal.loop-place-preserved
loop-place-preserved g c =
    let i = c.loop-place.invariant in
    let outlets = c.loop-place.outlets in
    let place = c.loop-place.place in
    let new = c.advance_as_told.new.self in
    let within : place < length outlets = omega arith in
    let answer = c.in_ok-on.ensures.answer in
    record {
      kept = map-set_same (outlet_kept c.args.is_told) outlets place new c.index-outlets-place.result c.advance_as_told.ensures.kept ∙ i.kept;
      order = All-set OutletInOrder outlets place new c.advance_as_told.ensures.order i.order;
      fulls = fulls_more (fulls_of c.args.outlets.now) outlets place new c.index-outlets-place.result within i.fulls c.advance_as_told.ensures.fulls;
      tried = tried_more c.args.is_told place c.args.outlets.now outlets new c.index-outlets-place.result (g.B.Bells.shown c.advance_as_told.new.bells) c.in_ok-on.on within i.rest answer i.tried;
      waits = subst (WaitsSo c.args.is_told (place + 1) c.args.outlets.now (set outlets place new) (g.B.Bells.shown c.advance_as_told.new.bells)) (sym c.earlier-first.ensures)
          (waits_more c.args.is_told place c.args.outlets.now outlets new c.index-outlets-place.result (g.B.Bells.shown c.loop-place.bells) (g.B.Bells.shown c.advance_as_told.new.bells) c.loop-place.first
          c.in_ok-on.on within i.rest i.fulls c.advance_as_told.ensures.fulls c.in_ok-on.ensures.bells answer i.waits);
      rest = drop-set-lt (place + 1) outlets place new (omega arith) ∙ drop_more_same outlets c.args.outlets.now place i.rest;
      shown = λ bell count shown. c.in_ok-on.ensures.bells bell count (i.shown bell count shown);
      rang = λ bell times rang. rang_more (g.B.Bells.rang c.loop-place.bells bell) (g.B.Bells.rang c.advance_as_told.new.bells bell) outlets new c.index-outlets-place.result place bell
          within (λ t. c.in_ok-on.ensures.rang bell t) times (i.rang bell times rang);
    }

pub loop-place-init : goal.loop-place-init
loop-place-init g c = record {
  kept = refl;
  order = search rules;
  fulls = omega arith;
  tried = λ k d less. absurd (omega (arith, less));
  waits = λ k d less. absurd (omega (arith, less));
  rest = refl;
  shown = λ bell count shown. shown;
  rang = λ bell times rang. rang;
}

pub returns-clause-answer : goal.returns-clause-answer
returns-clause-answer g c = waits_all c.args.is_told c.loop-place.place c.args.outlets.now c.loop-place.outlets (g.B.Bells.shown c.loop-place.bells) c.loop-place.first (omega arith) c.loop-place.invariant.waits

pub returns-clause-tried : goal.returns-clause-tried
returns-clause-tried g c = λ k d less. c.loop-place.invariant.tried k d (omega (arith, less))
