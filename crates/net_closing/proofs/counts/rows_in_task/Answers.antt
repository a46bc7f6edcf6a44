use Rattle.driver_loop.specs.Turns.{passed_of}
use Rattle.driver_net_laws.specs.Settled.{of_lane}
use Rattle.plan_layout.specs.Pipes.{pipe_view}
use Rattle.net_closing.specs.Left.{at_place}
use Rattle.net_closing.proofs.CountLemmas.{lane_counted, sum_more}
use Rattle.net_closing.proofs.counts.rows_in_task.Goals as goal

pub loop-lane-preserved : goal.loop-lane-preserved
loop-lane-preserved c = λ drivers held.
    let lists = of_lane (at_place passed_of c.args.place) drivers (pipe_view c.args.pipe.now) c.args.task in
    sum_more lists c.loop-lane.lane c.loop-lane.rows c.saturating_add-rows.result _ (c.loop-lane.invariant drivers held)
    (lane_counted (lists c.loop-lane.lane) _ (c.in_ok-rows_in_lane.ensures drivers held)) c.saturating_add-rows.ensures
