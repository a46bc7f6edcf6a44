use Rattle.std.proofs.Common.{◌≡◌, length}
use Rattle.net_laws.specs.Later.{AreLater}
use Rattle.task_executor.specs.Turns.{AreUnfailed}
use Rattle.task_executor.proofs.alone.serve_all.Given as goal

abbrev pub invariant-loop-place : goal.invariant-loop-place
invariant-loop-place g l = record {
  later : AreLater l.fn.drivers.items l.drivers.items;
  unfailed : AreUnfailed l.drivers.items;
  level : length l.drivers.items ≡ length l.fn.drivers.items;
}
