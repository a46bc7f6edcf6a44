use Rattle.std.proofs.Common.{arith}
use Rattle.net_parts.specs.Pipes.{pipe_view}
use Rattle.net_parts.proofs.StockLemmas.{stocked_left}
use Rattle.net_making.proofs.LaneLemmas.{no_lanes, one_lane}
use Rattle.net_making.proofs.pipes.add_task.Goals as goal

pub loop-lane-init : goal.loop-lane-init
loop-lane-init g c = no_lanes c.args.making.now c.args.own (pipe_view c.args.pipe.now) c.args.task c.args.stock.now c.args.slots.now

pub driver_of-requires-clause-stocked : goal.driver_of-requires-clause-stocked
driver_of-requires-clause-stocked g c = stocked_left c.args.making.now c.args.stock.now c.loop-lane.stock c.loop-lane.invariant.left c.requires.stocked

pub loop-lane-preserved : goal.loop-lane-preserved
loop-lane-preserved g c =
    one_lane c.args.making.now c.args.own (pipe_view c.args.pipe.now) c.args.task c.loop-lane.lane c.in_ok-number.number c.in_ok-driver_of.field-0 c.args.stock.now c.loop-lane.stock c.driver_of.new.stock
    c.args.slots.now c.loop-lane.slots c.put.new.self c.loop-lane.invariant c.in_ok-driver_of.ensures.left c.in_ok-driver_of.ensures.fresh c.in_ok-number.ensures
    (c.in_ok-driver_of.ensures.is c.loop-lane.lane c.in_ok-number.ensures) c.in_ok-put.ensures.empty c.in_ok-put.ensures.filled

pub returns-clause-added : goal.returns-clause-added
returns-clause-added g c = λ labels labelled net for lane less.
    c.loop-lane.invariant.added labels labelled net for lane (omega (arith, less, c.loop-lane-test.false))
