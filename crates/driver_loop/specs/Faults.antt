-- Why a run gave up, by why an operator did.
use Rattle.operator_core.specs.declared.fault.OpFault.{OpFault}
use Rattle.operator_core.specs.declared.fault.OpFault.TheVariants as op
use Rattle.driver_loop.specs.declared.run_fault.RunFault.{RunFault}
use Rattle.driver_loop.specs.declared.run_fault.RunFault.TheVariants as run

abbrev pub run_fault : OpFault → RunFault
run_fault (op.Expr node kind) = run.ExprFailed node kind
run_fault op.Memory = run.Memory
