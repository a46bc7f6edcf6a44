-- Rows that are held, of which the first page has a row.
use Rattle.std.proofs.Common.{◌≡◌, ◌<◌, List, [], ◌∷◌, ◌++◌, length, refl, arith, true}
use Rattle.operator_core.specs.Rows.{Row}
use Rattle.operator_core.specs.Samples.{has_row}

pub has_row_first : (held rows more : List Row) → held ≡ rows ++ more → 0 < length rows → has_row held ≡ true
has_row_first held [] more e h = absurd (omega arith)
has_row_first held (row ∷ rows) more e h = rw e refl
