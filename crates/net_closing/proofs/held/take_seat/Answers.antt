use Rattle.std.proofs.Common.{arith}
use Rattle.net_closing.proofs.HeldLemmas.{fewer_after_set}
use Rattle.net_closing.proofs.held.take_seat.Goals as goal

pub returns-clause-rest : goal.returns-clause-rest
returns-clause-rest g c =
    fewer_after_set c.args.rows.now.items c.args.number c.index_mut.result.now c.take_in.new.row (omega (arith, c.if-number-len.false, c.len.ensures, c.args.rows.now.ok.0)) c.index_mut.ensures.value
    (record { each = c.take_in.ensures.rest })
