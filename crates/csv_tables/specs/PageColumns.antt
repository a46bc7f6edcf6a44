-- Columns of rows.
use Rattle.std.specs.Prelude.{◌≡◌, ℕ, suc, List, [], ◌∷◌, map}
use Rattle.sql_values.specs.declared.value.Value.{Value}
use Rattle.sql_values.specs.Blocks.{TypedCells}
use Rattle.sql_values.specs.Cells.{cell}

-- these columns have the cells that the rows have from a column on
abbrev pub AreColumnsFrom : ℕ → List (List Value) → List TypedCells → Type 0
AreColumnsFrom n rows [] = Unit {0}
AreColumnsFrom n rows (column ∷ columns) = (column.cells ≡ map (λ row. cell row n) rows) × AreColumnsFrom (suc n) rows columns
