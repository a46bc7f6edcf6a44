-- The table that a driver scans.
use Rattle.std.proofs.Common.{◌≡◌, ◌<◌, ℕ, zero, suc, List, [], ◌∷◌, length, map, get_or, slice_get, slice_index_or, Some, refl, ap, sym, subst, ◌∙◌, arith}
use Rattle.std.proofs.lemmas.List.{length-map}
use Rattle.sql_values.specs.declared.table.Table.{Table}
use Rattle.sql_values.specs.declared.types.Column.{Column}
use Rattle.sql_values.specs.declared.types.SqlType.{SqlType}
use Rattle.sql_values.specs.declared.types.SqlType.TheVariants.{Boolean}
use Rattle.sql_values.specs.declared.value.Value.{Value}
use Rattle.split_source.specs.Scans.{AreReadable, ScanState, claimed, given, types_at}
use Rattle.split_source.specs.Splits.{rows_of_splits as rows_of_splits}
use Rattle.sql_values.specs.Cells.{cut}
use Rattle.std.proofs.Common.{◌-◌, take}
use Rattle.std.proofs.Math.Seq.{take-nil}
use Rattle.col_pages.specs.Fits.{AllFit}
use Rattle.plan_trees.specs.Allowed.{table_rows}
use Rattle.plan_wiring.specs.Shares.{rows_at}
use Rattle.sql_values.specs.Columns.{kinds}
use Rattle.tree_evaluator.specs.Fits.{ColumnFits, ColumnsFit, TablesFit}
use Rattle.tree_evaluator.specs.Stops.{rows_of_table}
use Rattle.tree_evaluator.proofs.FitLemmas.{rows_cut}
use Rattle.tree_evaluator.proofs.LeafLemmas.{first_fit}

column_fits : (own : List SqlType) (column : ℕ) → ColumnFits own column (slice_index_or own column Boolean)
column_fits [] column = tt
column_fits (kind ∷ own) zero = refl
column_fits (kind ∷ own) (suc column) = column_fits own column

columns_fit : (all : List Column) (columns : List ℕ) → ColumnsFit (kinds all) columns (types_at all columns)
columns_fit all [] = tt
columns_fit all (column ∷ columns) = (column_fits (kinds all) column, columns_fit all columns)

pub within : (tables : List Table) (n : ℕ) (table : Table) → slice_get tables n ≡ Some table → n < length tables
within [] n table is = absurd cc
within (t ∷ tables) zero table is = omega arith
within (t ∷ tables) (suc n) table is = let below = within tables n table is in omega (arith, below)

-- the columns of a table that fits its own fit their types
pub readable : (tables : List Table) (n : ℕ) (t : Table) (columns : List ℕ) → n < length tables → t ≡ get_or tables n t → TablesFit tables
    → AreReadable t.columns columns t.rows
readable tables n t columns there is fit =
    let own : AllFit (kinds t.columns) t.rows = subst (λ (x : Table). AllFit (kinds x.columns) x.rows) (sym is) (fit n t there) in
    first_fit (types_at t.columns columns) columns t.rows t.rows refl
    (rows_cut (kinds t.columns) t.rows columns (types_at t.columns columns) (length-map columns (λ c. slice_index_or (kinds t.columns) c Boolean)) own (columns_fit t.columns columns))

pub rows_are : (tables : List Table) (n : ℕ) → rows_at tables n ≡ table_rows (map rows_of_table tables) n
rows_are [] n = refl
rows_are (t ∷ tables) zero = refl
rows_are (t ∷ tables) (suc n) = rows_are tables n

-- a seat that has drawn nothing
pub gave_none : (s : ScanState) → s.seat.numbers ≡ [] → given s ≡ []
gave_none s none =
    let claims : claimed s ≡ [] = ap (λ ns. map (cut s.columns) (rows_of_splits s.size s.rows ns)) none in
    ap (λ (rows : List (List Value)). take (length rows - s.left) rows) claims ∙ take-nil (length {A = List Value} [] - s.left)
