use Rattle.driver_net_laws.specs.Settled.{in_task}
use Rattle.plan_layout.specs.Pipes.{pipe_view}
use Rattle.std.proofs.Common.{refl}
use Rattle.net_closing.specs.Left.{at_place}
use Rattle.net_closing.proofs.HeldLemmas.{fewer_than_fewer}
use Rattle.net_closing.proofs.LeftLemmas.{left_fewer}
use Rattle.net_closing.proofs.CollectLemmas.{gathered_more}
use Rattle.net_closing.proofs.collect.collect_tasks.Goals as goal

pub loop-task-preserved : goal.loop-task-preserved
loop-task-preserved g c =
    let inv = c.loop-task.invariant in
    let went = c.in_ok-collect_lanes.ensures in
    let old = c.args.rows.now.items in
    let mid = c.loop-task.rows.items in
    record {
      rest = fewer_than_fewer old mid c.collect_lanes.new.rows.items inv.rest went.rest;
      seats = λ of drivers left.
          gathered_more c.args.seats.now.items c.loop-task.seats.items c.collect_lanes.new.seats.items (in_task (at_place of c.args.place) drivers (pipe_view c.args.pipe.now) c.loop-task.task)
          c.loop-task.task (in_task (at_place of c.args.place) drivers (pipe_view c.args.pipe.now)) (inv.seats of drivers left) (went.seats of drivers (left_fewer of drivers old mid left inv.rest)) refl;
    }
