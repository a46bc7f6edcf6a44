-- The rows at which a part of an expression is needed: those whose value before it meets a test.
use Rattle.std.specs.Prelude.{◌≡◌, ◌++◌, ℕ, zero, suc, List, [], ◌∷◌, length, slice_index_or, Bool, not, if◌then◌else◌}
use Rattle.sql_values.specs.declared.value.Value.{Value}
use Rattle.sql_functions.specs.Truth.{is_false, is_null, is_true}
use Rattle.column_exprs.specs.declared.kept.Test.{Test}
use Rattle.column_exprs.specs.declared.kept.Test.TheVariants as test
use Rattle.column_exprs.specs.declared.rows.Rows.{Rows}

abbrev pub meets : Test → Value → Bool
meets test.True v = is_true v
meets test.NotTrue v = not (is_true v)
meets test.NotFalse v = not (is_false v)
meets test.Null v = is_null v

-- those of the first so many positions beside which the value meets the test, in their order
abbrev pub kept : Test → (ℕ → Value) → List ℕ → ℕ → List ℕ
kept test values positions zero = []
kept test values positions (suc n) =
    kept test values positions n ++ (if meets test (values n) then slice_index_or positions n 0 ∷ [] else [])

-- the rows at the positions that are kept
pub record IsPart (test : Test) (values : ℕ → Value) (rows part : Rows) : Type 0 where
  pub page : part.page.now ≡ rows.page.now
  pub positions : part.positions.now ≡ kept test values rows.positions.now (length rows.positions.now)
