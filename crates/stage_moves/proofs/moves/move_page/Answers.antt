use Rattle.std.proofs.Common.{rules, ◌≡◌, false, ◌+◌, Option, Ok, set, refl, sym, ap, arith}
use Rattle.col_pages.specs.Pages.{TypedPage}
use Rattle.stage_moves.proofs.MoveLemmas.{none-gave, some-gave, Moved-none, Moved-gave_none, Moved-page, SomeFails-at, length-set, not-memory_err, err-err}
use Rattle.stage_moves.proofs.CountLemmas.{Counted-gave_none, Counted-page, Counted-is}
use Rattle.stage_moves.proofs.QuietLemmas.{Still-gave, Still-full, fit-some}
use Rattle.stage_moves.proofs.moves.move_page.Goals as goal

pub returns-in-Ok-None-clause-moved : goal.returns-in-Ok-None-clause-moved
returns-in-Ok-None-clause-moved g c = λ _. Moved-gave_none g.S.Operator c.args.stages.now.items c.args.place c.index_mut.result.now c.give_out.new.op
    (omega (arith, c.requires)) c.index_mut.ensures.value (none-gave g.S.Operator _ _ c.in-Ok-None.field-0 c.in-Ok-None.field-0-is ((c.in-Ok-None.ensures).gave tt))

pub returns-in-Ok-None-clause-counts : goal.returns-in-Ok-None-clause-counts
returns-in-Ok-None-clause-counts g c = λ _ X Y. Counted-gave_none g.S.Operator c.args.stages.now.items c.args.place c.index_mut.result.now c.give_out.new.op X Y
    (omega (arith, c.requires)) c.index_mut.ensures.value (none-gave g.S.Operator _ _ c.in-Ok-None.field-0 c.in-Ok-None.field-0-is ((c.in-Ok-None.ensures).gave tt))

pub returns-in-Err-clause-moved : goal.returns-in-Err-clause-moved
returns-in-Err-clause-moved g c = λ ok. Moved-gave_none g.S.Operator c.args.stages.now.items c.args.place c.index_mut.result.now c.give_out.new.op
    (omega (arith, c.requires)) c.index_mut.ensures.value ((c.in-Err.ensures).gave (not-memory_err (Unit {0}) (Option TypedPage) c.in-Err.fault ok))

pub returns-in-Err-clause-counts : goal.returns-in-Err-clause-counts
returns-in-Err-clause-counts g c = λ ok X Y. Counted-gave_none g.S.Operator c.args.stages.now.items c.args.place c.index_mut.result.now c.give_out.new.op X Y
    (omega (arith, c.requires)) c.index_mut.ensures.value ((c.in-Err.ensures).gave (not-memory_err (Unit {0}) (Option TypedPage) c.in-Err.fault ok))

pub returns-in-Err-clause-fault : goal.returns-in-Err-clause-fault
returns-in-Err-clause-fault g c = λ node kind e. SomeFails-at g.S.Operator c.args.stages.now.items c.args.place c.give_out.new.op node kind
    (omega (arith, c.requires)) ((c.in-Err.ensures).fault node kind (err-err _ _ e))

pub returns-clause-moved : goal.returns-clause-moved
returns-clause-moved g c = λ ok. Moved-page g.S.Operator c.args.stages.now.items c.args.place (c.args.place + 1) c.index_mut.result.now c.index_mut-2.result.now
    c.give_out.new.op c.take_in-outcome.new.op c.in-Ok-Some.page refl c.requires c.index_mut.ensures.value c.index_mut-2.ensures.value
    (some-gave g.S.Operator _ _ c.in-Ok-Some.field-0 c.in-Ok-Some.page c.in-Ok-Some.field-0-is ((c.in-Ok-Some.ensures).gave tt)) (c.take_in-outcome.ensures.took ok)

pub returns-clause-counts : goal.returns-clause-counts
returns-clause-counts g c = λ ok X Y. Counted-is g.S.Operator _ _ X X Y Y _ _ (sym (c.len-rows.ensures).len)
    (Counted-page g.S.Operator c.args.stages.now.items c.args.place (c.args.place + 1) c.index_mut.result.now c.index_mut-2.result.now
    c.give_out.new.op c.take_in-outcome.new.op c.in-Ok-Some.page X Y refl c.requires c.index_mut.ensures.value c.index_mut-2.ensures.value
    (some-gave g.S.Operator _ _ c.in-Ok-Some.field-0 c.in-Ok-Some.page c.in-Ok-Some.field-0-is ((c.in-Ok-Some.ensures).gave tt)) (c.take_in-outcome.ensures.took ok))

pub returns-clause-fault : goal.returns-clause-fault
returns-clause-fault g c = λ node kind e. SomeFails-at g.S.Operator (set c.args.stages.now.items c.args.place c.give_out.new.op) (c.args.place + 1)
    c.take_in-outcome.new.op node kind (rw (length-set c.args.stages.now.items c.args.place c.give_out.new.op) c.requires)
    (c.take_in-outcome.ensures.fault node kind e)

pub returns-then-not-needs_input-clause-moved : goal.returns-then-not-needs_input-clause-moved
returns-then-not-needs_input-clause-moved g c = λ _. Moved-none g.S.Operator c.args.stages.now.items

pub returns-in-Ok-None-clause-still : goal.returns-in-Ok-None-clause-still
returns-in-Ok-None-clause-still g c = λ _ _ still. Still-gave g.S.Operator c.laws.ensures c.needs_laws.ensures c.args.stages.now.items c.args.place c.index_mut.result.now c.give_out.new.op
    (omega (arith, c.requires)) c.index_mut.ensures.value (none-gave g.S.Operator _ _ c.in-Ok-None.field-0 c.in-Ok-None.field-0-is ((c.in-Ok-None.ensures).gave tt))
    (((c.in-Ok-None.ensures).none tt).0 (ap Ok c.in-Ok-None.field-0-is)).0 still

pub returns-then-not-needs_input-clause-still : goal.returns-then-not-needs_input-clause-still
returns-then-not-needs_input-clause-still g c = λ _ _ still.
    let none : g.S.Operator.needs_input c.index.result.now ≡ false = search rules in
    Still-full g.S.Operator c.args.stages.now.items c.args.place c.index.result.now c.index.ensures none still

pub returns-clause-still : goal.returns-clause-still
returns-clause-still g c = λ _ none still. absurd (omega (
  arith,
  none,
  (c.len-rows.ensures).len,
  fit-some _ c.in-Ok-Some.field-0 c.in-Ok-Some.page _ c.in-Ok-Some.is c.in-Ok-Some.field-0-is c.give_out.ensures.size,
))
