use Rattle.std.proofs.Common.{Option, arith}
use Rattle.col_pages.specs.Pages.{TypedPage}
use Rattle.stage_moves.proofs.MoveLemmas.{Moved-took, SomeFails-at, err-err, not-memory_err}
use Rattle.stage_moves.proofs.CountLemmas.{Counted-took}
use Rattle.stage_moves.proofs.moves.feed.Goals as goal

pub returns-in-Err-clause-fault : goal.returns-in-Err-clause-fault
returns-in-Err-clause-fault g c = λ node kind e. SomeFails-at g.S.Operator c.args.stages.now.items 0 c.take_in.new.op node kind (omega (arith, c.len-count.ensures, c.if-count-eq0.false)) ((c.in-Err.ensures).fault node kind (err-err _ _ e))

pub returns-in-Ok-clause-moved : goal.returns-in-Ok-clause-moved
returns-in-Ok-clause-moved g c = λ _. Moved-took g.S.Operator c.args.stages.now.items c.index_mut.result.now c.take_in.new.op c.args.page
    (omega (arith, c.len-count.ensures, c.if-count-eq0.false)) c.index_mut.ensures.value ((c.in-Ok.ensures).took tt)

pub returns-in-Err-clause-moved : goal.returns-in-Err-clause-moved
returns-in-Err-clause-moved g c = λ ok. Moved-took g.S.Operator c.args.stages.now.items c.index_mut.result.now c.take_in.new.op c.args.page
    (omega (arith, c.len-count.ensures, c.if-count-eq0.false)) c.index_mut.ensures.value ((c.in-Err.ensures).took (not-memory_err (Unit {0}) (Unit {0}) c.in-Err.fault ok))

pub returns-in-Ok-clause-counts : goal.returns-in-Ok-clause-counts
returns-in-Ok-clause-counts g c = λ _ X Y. Counted-took g.S.Operator c.args.stages.now.items c.index_mut.result.now c.take_in.new.op c.args.page X Y
    (omega (arith, c.len-count.ensures, c.if-count-eq0.false)) c.index_mut.ensures.value ((c.in-Ok.ensures).took tt)

pub returns-in-Err-clause-counts : goal.returns-in-Err-clause-counts
returns-in-Err-clause-counts g c = λ ok X Y. Counted-took g.S.Operator c.args.stages.now.items c.index_mut.result.now c.take_in.new.op c.args.page X Y
    (omega (arith, c.len-count.ensures, c.if-count-eq0.false)) c.index_mut.ensures.value ((c.in-Err.ensures).took (not-memory_err (Option TypedPage) (Unit {0}) c.in-Err.fault ok))
