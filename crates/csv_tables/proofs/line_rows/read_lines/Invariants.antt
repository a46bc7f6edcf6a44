use Rattle.std.proofs.Common.{◌≡◌, ◌≢◌, ◌≤◌, ◌+◌, [], length}
use Rattle.std.specs.Prelude.{All}
use Rattle.sql_values.specs.Columns.{kinds}
use Rattle.csv_tables.specs.Lines.{records_in}
use Rattle.csv_tables.specs.Parts.{quote}
use Rattle.csv_tables.specs.Tables.{rows_from}
use Rattle.csv_tables.proofs.RowLemmas.{after}
use Rattle.csv_tables.proofs.line_rows.read_lines.Given as goal

abbrev pub invariant-loop-line : goal.invariant-loop-line
invariant-loop-line l = (l.place ≤ l.limit + 1) × (l.rows.types ≡ kinds l.columns) × (l.rows.begun ≡ [])
    × (rows_from l.columns l.limit 1 (records_in l.text) ≡ after l.rows.rows (rows_from l.columns l.limit l.place (records_in l.left)))
    × All (λ b. b ≢ quote) l.left

abbrev pub decreases-loop-line : goal.decreases-loop-line
decreases-loop-line l = length (records_in l.left)
