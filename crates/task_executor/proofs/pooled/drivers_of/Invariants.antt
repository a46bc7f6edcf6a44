use Rattle.std.proofs.Common.{◌≡◌, ◌++◌}
use Rattle.std.specs.Vec.Iter.{into_iter_items}
use Rattle.task_executor.proofs.pooled.drivers_of.Given as goal

abbrev pub invariant-loop-one : goal.invariant-loop-one
invariant-loop-one g l = l.drivers.items ++ into_iter_items l.one-iterator ≡ l.fn.pooled.items
