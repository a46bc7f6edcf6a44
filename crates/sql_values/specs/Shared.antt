-- The cells that a block shows of what it keeps.
use Rattle.std.specs.Prelude.{ℕ, ◌<◌, All, length, replicate}
use Rattle.sql_values.specs.declared.block.Stored.{Stored}
use Rattle.sql_values.specs.declared.block.Stored.TheVariants.{Plain, Run, Dictionary}
use Rattle.sql_values.specs.Blocks.{TypedCells, chosen}

-- of a run the one cell as often as it counts, of a dictionary the entry of each id
abbrev pub shown : Stored → TypedCells
shown (Plain block) = block
shown (Run one count) = chosen one (replicate count 0)
shown (Dictionary entries ids) = chosen entries ids.items

-- a run has a cell, and each id an entry
abbrev pub IsWithin : Stored → Type 0
IsWithin (Plain block) = Unit {0}
IsWithin (Run one count) = 0 < length one.cells
IsWithin (Dictionary entries ids) = All (λ p. p < length entries.cells) ids.items
