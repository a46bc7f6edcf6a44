-- Rows of a driver's own.
use Rattle.std.specs.Prelude.{List, Bool}
use Rattle.operator_core.specs.Rows.{Row}

-- the rows, those of them that were given, and whether it was closed
pub record RowsState : Type 0 where
  pub rows : List Row
  pub given : List Row
  pub is_ended : Bool
