use Rattle.std.proofs.Common.{◌≡◌}
use Rattle.operator_tests.proofs.page_texts.put_rows.Given as goal

abbrev pub invariant-loop-row : goal.invariant-loop-row
invariant-loop-row l =
    (goal.iterator-loop-row).can_next l.row-iterator × (goal.iterator-loop-row).is_finite l.row-iterator × (l.builder.types ≡ l.fn.builder.types)
