use Rattle.std.proofs.Common.{◌≡◌, ◌<◌, ℕ, List, Some, length}
use Rattle.std.specs.Prelude.{slice_get}
use Rattle.plan_layout.specs.Pipes.{PipeForm, pipe_view}
use Rattle.net_closing.specs.Covered.{AreMarked}
use Rattle.net_closing.proofs.cover.mark_lanes.Given as goal

abbrev pub invariant-loop-lane : goal.invariant-loop-lane
invariant-loop-lane l = record {
  marks : (layout : List PipeForm) (at : ℕ) → slice_get layout at ≡ Some (pipe_view l.pipe) → l.task < l.pipe.tasks → AreMarked layout l.fn.marks.items → AreMarked layout l.marks.items;
  count : length l.marks.items ≡ length l.fn.marks.items;
}
