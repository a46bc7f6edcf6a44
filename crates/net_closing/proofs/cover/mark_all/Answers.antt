use Rattle.std.proofs.Common.{◌∙◌, map}
use Rattle.plan_layout.specs.Pipes.{pipe_view}
use Rattle.net_closing.proofs.PipeLemmas.{view_at}
use Rattle.net_closing.proofs.cover.mark_all.Goals as goal

pub loop-pipe-preserved : goal.loop-pipe-preserved
loop-pipe-preserved c =
    let inv = c.loop-pipe.invariant in
    let pipes = c.args.layout.now in
    record {
      marks = λ marked. c.in_ok-mark_tasks.ensures.marks (map pipe_view pipes) c.loop-pipe.pipe-index
          (view_at pipes c.loop-pipe.pipe-index c.pipe-item.result c.loop-pipe-test.true c.pipe-item.is) (inv.marks marked);
      count = c.in_ok-mark_tasks.ensures.count ∙ inv.count;
    }
