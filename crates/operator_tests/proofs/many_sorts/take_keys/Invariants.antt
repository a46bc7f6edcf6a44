use Rattle.std.proofs.Common.{◌≡◌, [], ◌∷◌}
use Rattle.sql_values.specs.declared.types.SqlType.TheVariants.{Bigint}
use Rattle.col_pages.specs.Fits.{IsOfTypes}
use Rattle.col_pages.specs.Pages.{TypedPage}
use Rattle.operator_tests.proofs.many_sorts.take_keys.Given as goal

abbrev pub invariant-loop-part : goal.invariant-loop-part
invariant-loop-part g l = (p : TypedPage) → IsOfTypes (Bigint ∷ []) p → g.O.Operator.takes l.op p
