use Rattle.net_laws.specs.Later.{AreLater}
use Rattle.task_executor.specs.Turns.{AreUnfailed}
use Rattle.task_executor.proofs.alone.serve_picked.Given as goal

abbrev pub invariant-loop-pick : goal.invariant-loop-pick
invariant-loop-pick g l = record {
  later : AreLater l.fn.drivers.items l.drivers.items;
  unfailed : AreUnfailed l.drivers.items;
}
