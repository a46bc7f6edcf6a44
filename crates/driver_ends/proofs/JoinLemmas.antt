-- The columns of a page as they were.
use Rattle.std.proofs.Common.{◌≡◌, ℕ, zero, ◌<◌, List, [], ◌∷◌, length, arith}
use Rattle.sql_values.specs.Blocks.{TypedCells}
use Rattle.sql_values.specs.ColumnRows.{AreFilled, common_length}

pub common_filled : (n : ℕ) (columns : List TypedCells) → 0 < length columns → AreFilled n zero columns → common_length columns ≡ n
common_filled n [] some filled = absurd (omega arith)
common_filled n (column ∷ columns) some filled = filled.0
