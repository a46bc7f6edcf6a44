use Rattle.std.proofs.Common.{◌≡◌, ◌++◌}
use Rattle.std.specs.Vec.Iter.{into_iter_items}
use Rattle.task_executor.proofs.pooled.pooled.Given as goal

abbrev pub invariant-loop-driver : goal.invariant-loop-driver
invariant-loop-driver g l = l.pooled.items ++ into_iter_items l.driver-iterator ≡ l.fn.drivers.items
