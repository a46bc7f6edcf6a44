-- Several forms at positions, up to the first position at which one of them fails.
use Rattle.std.specs.Prelude.{◌≡◌, ℕ, List, [], ◌∷◌, length, map, Option, Some, None, Result, Ok, Err}
use Rattle.std.specs.List.{range_with_len}
use Rattle.sql_values.specs.declared.types.SqlType.{SqlType}
use Rattle.sql_values.specs.declared.value.Value.{Value}
use Rattle.sql_values.specs.declared.fail.Fail.{Fail}
use Rattle.sql_values.specs.Blocks.{TypedCells}
use Rattle.sql_exprs.specs.Forms.{Form}
use Rattle.sql_exprs.specs.Pages.{cell_at}
use Rattle.relation_laws.specs.Aggregates.{all_values}
use Rattle.page_processor.specs.Positions.{block_at}

-- the forms' cells at a position, or the failure of the first form that fails there
abbrev pub row_from : List SqlType → List (List Value) → List Form → ℕ → Result (List Value) Fail
row_from types rows forms position = all_values (map (λ form. cell_at types form rows position) forms)

abbrev pub first_row : Result (List Value) Fail → ℕ → List ℕ → List ℕ
first_row (Ok cells) position later = position ∷ later
first_row (Err kind) position later = []

-- the positions before the first at which there is no row
abbrev pub row_positions : (ℕ → Result (List Value) Fail) → List ℕ → List ℕ
row_positions row [] = []
row_positions row (position ∷ positions) = first_row (row position) position (row_positions row positions)

abbrev pub row_failure_or : Result (List Value) Fail → Option Fail → Option Fail
row_failure_or (Ok cells) later = later
row_failure_or (Err kind) later = Some kind

abbrev pub row_failure : (ℕ → Result (List Value) Fail) → List ℕ → Option Fail
row_failure row [] = None
row_failure row (position ∷ positions) = row_failure_or (row position) (row_failure row positions)

-- the positions of all rows before the first that fails
abbrev pub positions_before : List SqlType → List (List Value) → List Form → List ℕ
positions_before types rows forms = row_positions (row_from types rows forms) (range_with_len 0 (length rows))

-- a block for each form, at these positions, and the failure after them
pub record AreColumnsUpTo (types : List SqlType) (rows : List (List Value)) (forms : List Form) (blocks : List TypedCells) (failure : Option Fail) : Type 0 where
  pub blocks_are : blocks ≡ map (block_at types rows (positions_before types rows forms)) forms
  pub failure_is : failure ≡ row_failure (row_from types rows forms) (range_with_len 0 (length rows))
