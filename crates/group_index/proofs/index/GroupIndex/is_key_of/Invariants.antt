use Rattle.std.proofs.Common.{◌≡◌, drop}
use Rattle.sql_values.specs.Cells.{cut}
use Rattle.relation_laws.specs.Equality.{same_row}
use Rattle.group_index.specs.Keys.{key_at}
use Rattle.group_index.proofs.index.GroupIndex.is_key_of.Given as goal

-- the cells so far are the same, the rest decides
abbrev pub invariant-loop-column : goal.invariant-loop-column
invariant-loop-column g l =
    same_row (key_at l.self l.place) (cut l.columns (g.C.Cells.values l.cells))
    ≡ same_row (drop l.column (key_at l.self l.place)) (drop l.column (cut l.columns (g.C.Cells.values l.cells)))
