use Rattle.std.proofs.Common.{◌≡◌, map, take}
use Rattle.csv_tables.proofs.rows.empty_rows.Given as goal

-- the types so far are those of the first columns
abbrev pub invariant-loop-column : goal.invariant-loop-column
invariant-loop-column l = l.types.items ≡ map (λ column. column.kind) (take l.column-index l.columns)
