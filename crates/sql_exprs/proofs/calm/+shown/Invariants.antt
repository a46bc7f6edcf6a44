use Rattle.std.proofs.Common.{◌≡◌, drop}
use Rattle.sql_exprs.specs.Calm.{args_show, results_show}
use Rattle.sql_exprs.proofs.calm.+shown.Given as goal

abbrev pub invariant-args_show-loop-arg : goal.invariant-args_show-loop-arg
invariant-args_show-loop-arg l = args_show l.types l.args ≡ args_show l.types (drop l.arg-index l.args)

abbrev pub invariant-results_show-loop-branch : goal.invariant-results_show-loop-branch
invariant-results_show-loop-branch l = results_show l.types l.branches ≡ results_show l.types (drop l.branch-index l.branches)
