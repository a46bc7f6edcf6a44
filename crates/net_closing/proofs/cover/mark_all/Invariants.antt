use Rattle.std.proofs.Common.{◌≡◌, length, map}
use Rattle.plan_layout.specs.Pipes.{pipe_view}
use Rattle.net_closing.specs.Covered.{AreMarked}
use Rattle.net_closing.proofs.cover.mark_all.Given as goal

abbrev pub invariant-loop-pipe : goal.invariant-loop-pipe
invariant-loop-pipe l = record {
  marks : AreMarked (map pipe_view l.layout) l.fn.marks.items → AreMarked (map pipe_view l.layout) l.marks.items;
  count : length l.marks.items ≡ length l.fn.marks.items;
}
