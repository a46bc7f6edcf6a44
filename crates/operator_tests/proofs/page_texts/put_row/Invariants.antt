use Rattle.std.proofs.Common.{◌≡◌}
use Rattle.operator_tests.proofs.page_texts.put_row.Given as goal

abbrev pub invariant-loop-kind : goal.invariant-loop-kind
invariant-loop-kind l =
    (goal.iterator-loop-kind).can_next l.kind-iterator × (goal.iterator-loop-kind).is_finite l.kind-iterator × (l.builder.types ≡ l.fn.builder.types)
