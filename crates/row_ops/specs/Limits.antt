-- What `LimitOp` may give.
use Rattle.std.specs.Prelude.{◌≡◌, ℕ, List, ◌++◌, Option, take}
use Rattle.sql_values.specs.declared.value.Value.{Value}
use Rattle.col_pages.specs.Pages.{TypedPage}
use Rattle.row_ops.specs.RowsHeld.{rows_held}

-- what it holds, and then the first of the rows to come, as many as are still wanted
abbrev pub LimitGives : ℕ → Option TypedPage → List (List Value) → List (List Value) → Type 0
LimitGives left held X B = B ≡ rows_held held ++ take left X
