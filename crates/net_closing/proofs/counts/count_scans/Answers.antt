use Rattle.std.proofs.Common.{◌∙◌, map}
use Rattle.plan_layout.specs.Filters.{scan_filters}
use Rattle.plan_layout.specs.Pipes.{PipeForm, pipe_view}
use Rattle.net_closing.specs.Counts.{counts_from}
use Rattle.net_closing.proofs.PipeLemmas.{flat_next}
use Rattle.net_closing.proofs.counts.count_scans.Goals as goal

pub loop-at-preserved : goal.loop-at-preserved
loop-at-preserved c = λ drivers held.
    let pipes = c.args.layout.now in
    c.loop-at.invariant drivers held
    ∙ flat_next (λ (pipe : PipeForm). counts_from drivers pipe 0 (scan_filters (map pipe_view pipes) pipe)) pipes c.loop-at.at c.index-layout-at.result c.loop-at.counts.items
    c.count_scan.new.counts.items c.loop-at-test.true c.index-layout-at.is (c.in_ok-count_scan.ensures drivers held)
