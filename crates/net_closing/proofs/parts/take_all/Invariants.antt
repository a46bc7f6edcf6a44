use Rattle.std.proofs.Common.{◌≡◌, ◌++◌, List}
use Rattle.std.specs.Vec.Iter.{into_iter_items}
use Rattle.driver_loop.specs.Drivers.{DriverState}
use Rattle.net_closing.specs.Left.{WereTaken}
use Rattle.net_closing.proofs.parts.take_all.Given as goal

abbrev pub invariant-loop-driver : goal.invariant-loop-driver
invariant-loop-driver g l =
    (done : List DriverState) × (done ++ into_iter_items l.driver-iterator ≡ l.fn.drivers.items) × WereTaken done l.fn.notes l.notes l.parts
