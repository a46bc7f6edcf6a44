use Rattle.std.proofs.Common.{◌-◌, arith}
use Rattle.stage_moves.proofs.MoveLemmas.{Moved-gave, SomeFails-at}
use Rattle.stage_moves.proofs.CountLemmas.{Counted-gave}
use Rattle.stage_moves.proofs.QuietLemmas.{Quiet-gave, fit-none, gave-none, ok-not_memory}
use Rattle.stage_moves.proofs.moves.drain.Goals as goal

pub returns-clause-moved : goal.returns-clause-moved
returns-clause-moved g c = λ ok. Moved-gave g.S.Operator c.args.stages.now.items (c.len-count.result - 1) c.index_mut.result.now c.give_out.new.op _
    (omega (arith, c.len-count.ensures, c.if-count-eq0.false)) c.index_mut.ensures.value (c.give_out.ensures.gave ok)

pub returns-clause-fault : goal.returns-clause-fault
returns-clause-fault g c = λ node kind e. SomeFails-at g.S.Operator c.args.stages.now.items (c.len-count.result - 1) c.give_out.new.op node kind
    (omega (arith, c.len-count.ensures, c.if-count-eq0.false)) (c.give_out.ensures.fault node kind e)

pub returns-clause-counts : goal.returns-clause-counts
returns-clause-counts g c = λ ok X Y. Counted-gave g.S.Operator c.args.stages.now.items (c.len-count.result - 1) c.index_mut.result.now c.give_out.new.op _ X Y
    (omega (arith, c.len-count.ensures, c.if-count-eq0.false)) c.index_mut.ensures.value (c.give_out.ensures.gave ok)

pub returns-clause-quiet : goal.returns-clause-quiet
returns-clause-quiet g c = λ ok none still.
    let is = fit-none _ _ c.give_out.ensures.size ok none in
    let memory = ok-not_memory _ ok in
    Quiet-gave g.S.Operator c.laws.ensures c.needs_laws.ensures c.args.stages.now.items (c.len-count.result - 1) c.index_mut.result.now c.give_out.new.op
    (omega (arith, c.len-count.ensures, c.if-count-eq0.false)) c.index_mut.ensures.value (gave-none g.S.Operator _ _ _ is (c.give_out.ensures.gave memory))
    ((c.give_out.ensures.none memory).0 is).0 still
