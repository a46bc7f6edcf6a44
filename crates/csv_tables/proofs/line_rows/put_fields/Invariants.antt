use Rattle.std.proofs.Common.{◌≡◌, ◌+◌, Bor, List, ℕ, drop, length}
use Rattle.std.specs.Prelude.{option_map}
use Rattle.sql_values.specs.Columns.{kinds}
use Rattle.csv_tables.specs.Lines.{fields_left, fields_of_line}
use Rattle.csv_tables.specs.Tables.{cells_from}
use Rattle.csv_tables.proofs.RowLemmas.{after}
use Rattle.csv_tables.proofs.line_rows.put_fields.Given as goal

abbrev pub invariant-loop-at : goal.invariant-loop-at
invariant-loop-at l =
    let left = fields_left (option_map (λ (rest : Bor (List ℕ)). rest.now) l.left) in
    (l.rows.types ≡ kinds l.columns) × (length l.rows.begun ≡ l.at) × (l.rows ≡ record l.fn.rows { begun = l.rows.begun })
    × (cells_from l.row 0 l.columns (fields_of_line l.line) ≡ after l.rows.begun (cells_from l.row l.at (drop l.at l.columns) left))
    × (length (fields_of_line l.line) ≡ l.at + length left)
