use Rattle.std.proofs.Common.{◌≡◌, drop, length}
use Rattle.csv.specs.Records.{fields_of}
use Rattle.sql_values.specs.Columns.{kinds}
use Rattle.csv_tables.specs.Tables.{cells_from}
use Rattle.csv_tables.proofs.RowLemmas.{after}
use Rattle.csv_tables.proofs.rows.read_cells.Given as goal

abbrev pub invariant-loop-at : goal.invariant-loop-at
invariant-loop-at l = (l.rows.types ≡ kinds l.columns) × (length l.rows.begun ≡ l.at) × (l.rows ≡ record l.fn.rows { begun = l.rows.begun })
    × (cells_from l.row 0 l.columns (fields_of l.line)
    ≡ after l.rows.begun (cells_from l.row l.at (drop l.at l.columns) (drop l.at (fields_of l.line))))
