-- Which values stand in a values node.
use Rattle.std.specs.Prelude.{ℕ, ◌+◌, List, [], ◌∷◌, if◌then◌else◌, Option, Some, None}
use Rattle.sql_values.specs.declared.types.SqlType.{SqlType}
use Rattle.sql_values.specs.declared.value.Value.{Value}
use Rattle.sql_values.specs.Blocks.{fits}
use Rattle.sql_values.specs.Cells.{cell}
use Rattle.json_paths.specs.declared.key.Key.TheVariants as key
use Rattle.sql_exprs.specs.Typing.{Path, entry, under}
use Rattle.plan_docs.specs.Words.{small}

-- the first column from j on whose cell does not have its type
abbrev pub misfit_in : List SqlType → ℕ → List Value → Option ℕ
misfit_in [] j row = None
misfit_in (kind ∷ kinds) j row = if fits kind (cell row (small j)) then misfit_in kinds (j + 1) row else Some j

abbrev pub or_later : ℕ → Option ℕ → Option (ℕ × ℕ) → Option (ℕ × ℕ)
or_later i None later = later
or_later i (Some j) later = Some (i, j)

-- the first row from i on with such a cell, and its column
abbrev pub misfit_from : List SqlType → ℕ → List (List Value) → Option (ℕ × ℕ)
misfit_from kinds i [] = None
misfit_from kinds i (row ∷ rows) = or_later i (misfit_in kinds 0 row) (misfit_from kinds (i + 1) rows)

-- the cell as a place
abbrev pub cell_fault : Path → Option (ℕ × ℕ) → Option Path
cell_fault path None = None
cell_fault path (Some (i, j)) = Some (entry (entry (under path key.Rows) i) j)
