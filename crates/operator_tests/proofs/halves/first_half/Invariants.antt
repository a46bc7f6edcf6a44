use Rattle.col_pages.specs.Pages.{TypedPage}
use Rattle.col_pages.specs.Fits.{IsOfTypes}
use Rattle.operator_tests.proofs.halves.first_half.Given as goal

-- the operator takes each page of the types
abbrev pub invariant-loop-row : goal.invariant-loop-row
invariant-loop-row l =
    (goal.iterator-loop-row).can_next l.row-iterator × (goal.iterator-loop-row).is_finite l.row-iterator
    × ((p : TypedPage) → IsOfTypes l.types p → IsOfTypes l.op.kernel.groups.table.types p)
