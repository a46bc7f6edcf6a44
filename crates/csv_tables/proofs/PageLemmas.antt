-- Columns of rows, and their cells.
use Rattle.std.proofs.Common.{◌≡◌, ◌<◌, ◌+◌, ◌∙◌, ◌++◌, ◌∷◌, ℕ, zero, suc, List, [], length, map, get_or, refl, sym, ap, subst, arith}
use Rattle.sql_values.specs.Blocks.{TypedCells}
use Rattle.sql_values.specs.Cells.{cell}
use Rattle.sql_values.specs.declared.value.Value.{Value}
use Rattle.sql_values.specs.declared.value.Value.TheVariants.{Null}
use Rattle.csv_tables.specs.PageColumns.{AreColumnsFrom}

mapped_at : (f : List Value → Value) (rows : List (List Value)) (place : ℕ) → place < length rows → get_or (map f rows) place Null ≡ f (get_or rows place [])
mapped_at f [] place lt = absurd (omega (arith, lt))
mapped_at f (row ∷ rows) zero lt = refl
mapped_at f (row ∷ rows) (suc place) lt = mapped_at f rows place (omega (arith, lt))

mapped_long : (f : List Value → Value) (rows : List (List Value)) → length (map f rows) ≡ length rows
mapped_long f [] = refl
mapped_long f (row ∷ rows) = ap suc (mapped_long f rows)

-- one column more
pub columns_more : (rows : List (List Value)) (n : ℕ) (columns : List TypedCells) (next : TypedCells) (c : ℕ) → AreColumnsFrom n rows columns
    → c ≡ n + length columns → next.cells ≡ map (λ row. cell row c) rows → AreColumnsFrom n rows (columns ++ next ∷ [])
columns_more rows n [] next c are place is = (subst (λ k. next.cells ≡ map (λ row. cell row k) rows) (omega (arith, place)) is, tt)
columns_more rows n (column ∷ columns) next c are place is = (are.0, columns_more rows (suc n) columns next c are.1 (omega (arith, place)) is)

-- a cell of such a column is that of its row
pub cell_in : (rows : List (List Value)) (n : ℕ) (columns : List TypedCells) (i c place : ℕ) (column : TypedCells) (v : Value) → AreColumnsFrom n rows columns
    → i < length columns → column ≡ get_or columns i column → c ≡ n + i → place < length rows → v ≡ get_or column.cells place Null → v ≡ cell (get_or rows place []) c
cell_in rows n [] i c place column v are within at number lt is = absurd (omega (arith, within))
cell_in rows n (x ∷ columns) zero c place column v are within at number lt is =
    let here : c ≡ n = omega (arith, number) in
    rw here (is ∙ ap (λ (k : TypedCells). get_or k.cells place Null) at ∙ ap (λ (cells : List Value). get_or cells place Null) are.0
    ∙ mapped_at (λ row. cell row n) rows place lt)
cell_in rows n (x ∷ columns) (suc i) c place column v are within at number lt is =
    cell_in rows (suc n) columns i c place column v are.1 (omega (arith, within)) at (omega (arith, number)) lt is

-- such a column has a cell for each row
pub cells_in : (rows : List (List Value)) (n : ℕ) (columns : List TypedCells) (i : ℕ) (column : TypedCells) → AreColumnsFrom n rows columns
    → i < length columns → column ≡ get_or columns i column → length column.cells ≡ length rows
cells_in rows n [] i column are within at = absurd (omega (arith, within))
cells_in rows n (x ∷ columns) zero column are within at = ap (λ (k : TypedCells). length k.cells) at ∙ ap length are.0 ∙ mapped_long (λ row. cell row n) rows
cells_in rows n (x ∷ columns) (suc i) column are within at = cells_in rows (suc n) columns i column are.1 (omega (arith, within)) at
