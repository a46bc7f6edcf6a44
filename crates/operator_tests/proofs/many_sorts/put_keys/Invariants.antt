use Rattle.std.proofs.Common.{◌≡◌}
use Rattle.operator_tests.proofs.many_sorts.put_keys.Given as goal

abbrev pub invariant-loop-row : goal.invariant-loop-row
invariant-loop-row l = l.builder.types ≡ l.fn.builder.types
