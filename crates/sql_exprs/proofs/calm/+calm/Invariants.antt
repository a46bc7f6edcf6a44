use Rattle.std.proofs.Common.{◌≡◌, drop}
use Rattle.sql_exprs.specs.Calm.{all_branches_are_calm, args_are_calm}
use Rattle.sql_exprs.proofs.calm.+calm.Given as goal

abbrev pub invariant-args_are_calm-loop-arg : goal.invariant-args_are_calm-loop-arg
invariant-args_are_calm-loop-arg l = args_are_calm l.types l.args ≡ args_are_calm l.types (drop l.arg-index l.args)

abbrev pub invariant-branches_are_calm-loop-branch : goal.invariant-branches_are_calm-loop-branch
invariant-branches_are_calm-loop-branch l = all_branches_are_calm l.types l.branches ≡ all_branches_are_calm l.types (drop l.branch-index l.branches)
