-- The exit status of each answer.
use Rattle.std.specs.Prelude.{ℕ}
use Rattle.query_runner.specs.declared.status.Status.{Status}
use Rattle.query_runner.specs.declared.status.Status.TheVariants.{Ok, Memory, BadWords, ReadFault, PlanRefused, TableRefused, ExprFailed, WriteFault}

abbrev pub exit_code : Status → ℕ
exit_code Ok = 0
exit_code Memory = 1
exit_code BadWords = 2
exit_code (ReadFault file) = 3
exit_code (PlanRefused code path) = 4
exit_code (TableRefused table row column why) = 5
exit_code (ExprFailed node kind) = 6
exit_code WriteFault = 7
