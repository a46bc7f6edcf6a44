use Rattle.std.proofs.Common.{arith}
use Rattle.net_parts.specs.Pipes.{pipe_view}
use Rattle.net_parts.proofs.StockLemmas.{stocked_left}
use Rattle.net_making.proofs.LaneLemmas.{no_tasks, one_task}
use Rattle.net_making.proofs.pipes.add_pipe.Goals as goal

pub loop-task-init : goal.loop-task-init
loop-task-init g c = no_tasks c.args.making.now c.args.own (pipe_view c.args.pipe.now) c.args.stock.now c.args.slots.now

pub add_task-requires-clause-stocked : goal.add_task-requires-clause-stocked
add_task-requires-clause-stocked g c = stocked_left c.args.making.now c.args.stock.now c.loop-task.stock c.loop-task.invariant.left c.requires.stocked

pub loop-task-preserved : goal.loop-task-preserved
loop-task-preserved g c =
    one_task c.args.making.now c.args.own (pipe_view c.args.pipe.now) c.loop-task.task c.args.stock.now c.loop-task.stock c.add_task.new.stock c.args.slots.now c.loop-task.slots c.add_task.new.slots
    c.loop-task.invariant c.in_ok-add_task.ensures.left c.in_ok-add_task.ensures.grown c.in_ok-add_task.ensures.added

pub returns-clause-added : goal.returns-clause-added
returns-clause-added g c = λ labels labelled net for task lane less within.
    c.loop-task.invariant.added labels labelled net for task lane (omega (arith, less, c.loop-task-test.false)) within
