use Rattle.std.proofs.Common.{◌<◌, ◌∙◌, length}
use Rattle.driver_net_laws.specs.Settled.{puts_from}
use Rattle.plan_layout.specs.Pipes.{PipeForm}
use Rattle.net_closing.specs.Back.{SideHasTask}
use Rattle.net_closing.specs.Left.{outlets_of}
use Rattle.net_closing.proofs.HeldLemmas.{fewer_than_fewer}
use Rattle.net_closing.proofs.LeftLemmas.{left_fewer}
use Rattle.net_closing.proofs.PipeLemmas.{all_next, flat_next}
use Rattle.net_closing.proofs.collect.collect_puts.Goals as goal

pub loop-pipe-preserved : goal.loop-pipe-preserved
loop-pipe-preserved c =
    let inv = c.loop-pipe.invariant in
    let old = c.args.rows.now.items in
    let mid = c.loop-pipe.rows.items in
    let went = c.in_ok-collect_puts_of.ensures in
    let pipes = c.args.layout.now in
    let lt : c.loop-pipe.pipe-index < length pipes = c.loop-pipe-test.true in
    record {
      rest = fewer_than_fewer old mid c.collect_puts_of.new.rows.items inv.rest went.rest;
      tasks = λ all. inv.tasks (all_next (SideHasTask c.args.at c.args.task) pipes c.loop-pipe.pipe-index c.pipe-item.result lt c.pipe-item.is went.task all);
      seats = λ drivers left.
          inv.seats drivers left
          ∙ flat_next (λ (pipe : PipeForm). puts_from drivers c.args.at c.args.task pipe pipe.target) pipes c.loop-pipe.pipe-index c.pipe-item.result c.loop-pipe.seats.items
          c.collect_puts_of.new.seats.items lt c.pipe-item.is (went.seats drivers (left_fewer outlets_of drivers old mid left inv.rest));
    }
