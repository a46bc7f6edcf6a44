use Rattle.std.proofs.Common.{◌≡◌, drop}
use Rattle.accumulators.specs.Limits.{are_allowed}
use Rattle.tree_evaluator.proofs.calls.are_allowed.Given as goal

abbrev pub invariant-loop-call : goal.invariant-loop-call
invariant-loop-call l = are_allowed l.types l.calls ≡ are_allowed l.types (drop l.call-index l.calls)
