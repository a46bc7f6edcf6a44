use Rattle.std.proofs.Common.{◌≡◌}
use Rattle.operator_tests.proofs.joins.add_pages.Given as goal

abbrev pub invariant-loop-time : goal.invariant-loop-time
invariant-loop-time l = l.builder.types ≡ l.fn.builder.types
