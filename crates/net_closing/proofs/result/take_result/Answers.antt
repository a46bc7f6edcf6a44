use Rattle.std.proofs.Common.{map}
use Rattle.plan_layout.specs.Pipes.{pipe_view}
use Rattle.net_closing.proofs.PipeLemmas.{view_at}
use Rattle.net_closing.proofs.ResultLemmas.{result_given}
use Rattle.net_closing.proofs.result.take_result.Goals as goal

pub returns : goal.returns
returns c =
    let r = c.index-layout-at.result in
    result_given c.take_seat.result (map pipe_view c.args.layout.now) c.in_ok-at.at (pipe_view r) c.in_ok-number.number c.args.rows.now.items c.in_ok-at.ensures.only
    (view_at c.args.layout.now c.in_ok-at.at r c.in_ok-at.ensures.there c.index-layout-at.is) c.if-pipe-ne1.false c.if-pipe-ne1-2.false c.in_ok-number.ensures c.take_seat.ensures.seat
