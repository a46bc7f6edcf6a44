use Rattle.std.proofs.Common.{map, take}
use Rattle.sql_values.specs.Cells.{cut}
use Rattle.group_index.specs.Keys.{StandsAt}
use Rattle.group_index.proofs.index.GroupIndex.seek_rows.Given as goal

-- the first rows are found
abbrev pub invariant-loop-position : goal.invariant-loop-position
invariant-loop-position l = StandsAt l.self (map (cut l.columns) (take l.position l.page.rows)) l.found.items
