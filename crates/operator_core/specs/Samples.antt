-- Whether an operator holds a row.
use Rattle.std.specs.Prelude.{List, [], ◌∷◌, Bool, true, false}
use Rattle.operator_core.specs.Rows.{Row}

abbrev pub has_row : List Row → Bool
has_row [] = false
has_row (row ∷ rows) = true
