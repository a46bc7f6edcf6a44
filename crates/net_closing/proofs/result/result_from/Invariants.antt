use Rattle.std.proofs.Common.{◌-◌, ◌≤◌, length, map}
use Rattle.plan_layout.specs.Pipes.{pipe_view}
use Rattle.net_closing.specs.Results.{NoneGives}
use Rattle.net_closing.proofs.result.result_from.Given as goal

abbrev pub invariant-loop-place : goal.invariant-loop-place
invariant-loop-place l = record {
  none : NoneGives (map pipe_view l.layout) l.from l.place;
  low : l.from ≤ l.place;
  high : l.place ≤ length l.layout;
}

abbrev pub decreases-loop-place : goal.decreases-loop-place
decreases-loop-place l = length l.layout - l.place
