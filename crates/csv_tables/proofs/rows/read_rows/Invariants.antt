use Rattle.std.proofs.Common.{◌≡◌, ◌≤◌, ◌+◌, [], length}
use Rattle.sql_values.specs.Columns.{kinds}
use Rattle.csv_tables.specs.Tables.{rows_from}
use Rattle.csv_tables.proofs.RowLemmas.{after}
use Rattle.csv_tables.proofs.rows.read_rows.Given as goal

abbrev pub invariant-loop-rows : goal.invariant-loop-rows
invariant-loop-rows l = (l.place ≤ l.limit + 1) × (l.rows.types ≡ kinds l.columns) × (l.rows.begun ≡ [])
    × (rows_from l.columns l.limit 1 l.fn.records ≡ after l.rows.rows (rows_from l.columns l.limit l.place l.records))

abbrev pub decreases-loop-rows : goal.decreases-loop-rows
decreases-loop-rows l = length l.records
