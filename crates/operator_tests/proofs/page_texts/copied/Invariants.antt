use Rattle.std.proofs.Common.{◌≡◌}
use Rattle.operator_tests.proofs.page_texts.copied.Given as goal

abbrev pub invariant-loop-row : goal.invariant-loop-row
invariant-loop-row l = l.builder.types ≡ l.initial.builder.types
