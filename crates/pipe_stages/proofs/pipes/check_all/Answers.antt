use Rattle.std.proofs.Common.{map, arith}
use Rattle.std.proofs.lemmas.List.{length-map}
use Rattle.plan_layout.specs.Pipes.{pipe_view}
use Rattle.driver_net_laws.specs.Types.{PipeIsTyped}
use Rattle.pipe_stages.specs.Tables.{types_in}
use Rattle.pipe_stages.proofs.EachLemmas.{each, mapped_at, one_more}
use Rattle.pipe_stages.proofs.pipes.check_all.Goals as goal

pub loop-at-preserved : goal.loop-at-preserved
loop-at-preserved c =
    one_more (PipeIsTyped (map pipe_view c.args.pipes.now) (types_in c.args.table.now)) (map pipe_view c.args.pipes.now) c.loop-at.at
    (pipe_view c.index-pipes-at.result) (mapped_at pipe_view c.args.pipes.now c.loop-at.at c.index-pipes-at.result c.loop-at-test.true c.index-pipes-at.is)
    c.in_ok-check.ensures c.loop-at.invariant

pub returns : goal.returns
returns c =
    each (PipeIsTyped (map pipe_view c.args.pipes.now) (types_in c.args.table.now)) (map pipe_view c.args.pipes.now) c.loop-at.at
    (omega (arith, c.loop-at-test.false, length-map c.args.pipes.now pipe_view)) c.loop-at.invariant
