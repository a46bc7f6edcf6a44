use Rattle.std.specs.Prelude.{sum}
use Rattle.count_laws.specs.Counts.{most_count}
use Rattle.driver_loop.specs.Turns.{passed_of}
use Rattle.driver_net_laws.specs.Settled.{in_task}
use Rattle.plan_layout.specs.Pipes.{pipe_view}
use Rattle.net_closing.specs.Left.{at_place}
use Rattle.net_closing.proofs.CountLemmas.{sum_more, task_counted}
use Rattle.net_closing.proofs.counts.rows_passed.Goals as goal

pub loop-task-preserved : goal.loop-task-preserved
loop-task-preserved c = λ drivers held.
    let lists = in_task (at_place passed_of c.args.place) drivers (pipe_view c.args.pipe.now) in
    sum_more lists c.loop-task.task c.loop-task.rows c.saturating_add-rows.result _ (c.loop-task.invariant drivers held)
    (task_counted most_count (sum (lists c.loop-task.task)) _ (c.in_ok-rows_in_task.ensures drivers held)) c.saturating_add-rows.ensures
