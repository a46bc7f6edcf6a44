use Rattle.col_pages.specs.Pages.{TypedPage}
use Rattle.col_pages.specs.Fits.{IsOfTypes}
use Rattle.operator_tests.proofs.halves.second_half.Given as goal

-- the operator takes each page of the layout
abbrev pub invariant-loop-page : goal.invariant-loop-page
invariant-loop-page l = (p : TypedPage) → IsOfTypes l.layout p → IsOfTypes l.op.kernel.taken p
