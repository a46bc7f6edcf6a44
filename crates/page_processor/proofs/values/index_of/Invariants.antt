use Rattle.std.proofs.Common.{◌≡◌, ◌+◌, drop}
use Rattle.page_processor.specs.Positions.{index_of}
use Rattle.page_processor.proofs.values.index_of.Given as goal

abbrev pub invariant-loop-i : goal.invariant-loop-i
invariant-loop-i l = index_of l.position l.positions ≡ l.i + index_of l.position (drop l.i l.positions)
