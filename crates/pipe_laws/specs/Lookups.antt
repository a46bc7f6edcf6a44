-- What the note of a probe knows: the source that the right side of its join built.
use Rattle.std.specs.Prelude.{◌≡◌, ℕ, List, Option, option_map}
use Rattle.sql_values.specs.declared.types.SqlType.{SqlType}
use Rattle.operator_core.specs.Rows.{Row}
use Rattle.join_index.specs.Keys.{IndexedRows}
use Rattle.hash_join.specs.Probing.{AreFit}

-- the rows that it knows
abbrev pub rows_known : Option IndexedRows → Option (List Row)
rows_known known = option_map (λ source. source.rows) known

-- the source is found by these columns of rows of these types
pub record IsSourceOf (keys : List ℕ) (types : List SqlType) (source : IndexedRows) : Type 0 where
  pub by : source.keys ≡ keys
  pub of : source.types ≡ types
  pub fit : AreFit source
