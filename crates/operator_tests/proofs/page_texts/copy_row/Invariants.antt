use Rattle.std.proofs.Common.{◌≡◌}
use Rattle.operator_tests.proofs.page_texts.copy_row.Given as goal

abbrev pub invariant-loop-column : goal.invariant-loop-column
invariant-loop-column l = l.builder.types ≡ l.initial.builder.types
