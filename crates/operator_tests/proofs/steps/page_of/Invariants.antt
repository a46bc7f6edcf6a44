use Rattle.std.proofs.Common.{◌≡◌, [], ◌∷◌}
use Rattle.sql_values.specs.declared.types.SqlType.TheVariants.{Bigint}
use Rattle.col_pages.specs.Fits.{AllFit}
use Rattle.operator_tests.proofs.steps.page_of.Given as goal

abbrev pub invariant-loop-word : goal.invariant-loop-word
invariant-loop-word l = record {
  types : l.builder.types ≡ Bigint ∷ [];
  fit : AllFit (Bigint ∷ []) l.builder.rows;
}
