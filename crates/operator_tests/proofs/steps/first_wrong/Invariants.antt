use Rattle.std.proofs.Common.{[], ◌∷◌}
use Rattle.sql_values.specs.declared.types.SqlType.TheVariants.{Bigint}
use Rattle.col_pages.specs.Pages.{TypedPage}
use Rattle.col_pages.specs.Fits.{IsOfTypes}
use Rattle.operator_tests.proofs.steps.first_wrong.Given as goal

abbrev pub invariant-loop-line : goal.invariant-loop-line
invariant-loop-line g l = (page : TypedPage) → IsOfTypes (Bigint ∷ []) page → g.O.Operator.takes l.op page
