use Rattle.std.proofs.Common.{◌≡◌, ◌++◌, map}
use Rattle.std.specs.Vec.Iter.{into_iter_items}
use Rattle.plan_layout.specs.Layouts.{numbered}
use Rattle.plan_layout.specs.Pipes.{pipe_view}
use Rattle.plan_layout.proofs.layout.push_numbered.Given as goal

abbrev pub invariant-loop-pipe : goal.invariant-loop-pipe
invariant-loop-pipe l =
    map pipe_view l.fn.pipes.items ++ numbered l.fn.numbers (map pipe_view l.fn.own.items)
    ≡ map pipe_view l.pipes.items ++ numbered l.next (map pipe_view (into_iter_items l.pipe-iterator))
