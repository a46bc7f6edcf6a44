-- A column of a page, as the values of the form that names it.
use Rattle.std.proofs.Common.{◌≡◌, ℕ, ◌+◌, ◌<◌, zero, suc, List, [], ◌∷◌, ◌++◌, length, get_or, take, drop, map, refl, ap, sym, ◌∙◌, arith}
use Rattle.std.specs.Prelude.{Result, Ok, Err, Option, Some, None, IfOk, IfSome, All, IsTrue, if◌then◌else◌}
use Rattle.std.specs.List.{range_with_len}
use Rattle.std.proofs.lemmas.List.{drop_more, take_more}
use Rattle.sql_values.specs.declared.types.SqlType.{SqlType}
use Rattle.sql_values.specs.declared.types.SqlType.TheVariants.{Boolean}
use Rattle.sql_values.specs.declared.value.Value.{Value}
use Rattle.sql_values.specs.declared.value.Value.TheVariants.{Null}
use Rattle.sql_values.specs.Blocks.{fits}
use Rattle.sql_values.specs.Cells.{cell}
use Rattle.sql_values.specs.Blocks.{TypedCells}
use Rattle.sql_values.specs.ColumnRows.{fits_row}
use Rattle.col_pages.proofs.CellLemmas.{cell_fits}
use Rattle.sql_functions.specs.CallTypes.{type_at}
use Rattle.sql_exprs.specs.Forms.{Form, column}
use Rattle.sql_exprs.specs.Pages.{cell_at, cells_at, cell_before, in_block}

held : (kind : SqlType) (v : Value) → IsTrue (fits kind v) → in_block kind v ≡ v
held kind v h = ap (λ b. if b then v else Null) h

none_left : (start : ℕ) (rows : List (List Value)) → start + 0 ≡ length rows → [] ≡ drop start rows
none_left zero [] e = refl
none_left zero (row ∷ rows) e = absurd (omega arith)
none_left (suc start) [] e = refl
none_left (suc start) (row ∷ rows) e = none_left start rows (omega arith)

ranged : (n m : ℕ) → range_with_len n (suc m) ≡ range_with_len n m ++ (n + m) ∷ []
ranged n zero = ap (λ k. k ∷ []) (omega arith)
ranged n (suc m) = ap (λ ks. n ∷ ks) (ranged (n + 1) m ∙ ap (λ k. range_with_len (n + 1) m ++ k ∷ []) (omega arith))

-- one position more is its own place
pub all_more : (xs : List ℕ) (i : ℕ) → i < length xs → take i xs ≡ range_with_len 0 i → get_or xs i 0 ≡ i → take (i + 1) xs ≡ range_with_len 0 (i + 1)
all_more xs i lt before here =
    let count : suc i ≡ i + 1 = omega arith in
    let own : i ≡ 0 + i = omega arith in
    take_more xs i 0 lt ∙ ap (λ ks. ks ++ get_or xs i 0 ∷ []) before ∙ ap (λ k. range_with_len 0 i ++ k ∷ []) (here ∙ own) ∙ sym (ranged 0 i) ∙ ap (range_with_len 0) count

-- the cells from a row on
cells_from : (types : List SqlType) (rows : List (List Value)) (n : ℕ) → All (λ row. IsTrue (fits_row types row)) rows
    → (start count : ℕ) → start + count ≡ length rows
    → cells_at types (column n) rows (range_with_len start count) ≡ Ok (map (λ row. cell row n) (drop start rows))
cells_from types rows n fit start zero e = ap (λ rs. Ok (map (λ row. cell row n) rs)) (none_left start rows e)
cells_from types rows n fit start (suc count) e =
    let lt : start < length rows = omega arith in
    let here : cell_at types (column n) rows start ≡ Ok (cell (get_or rows start []) n)
    = ap Ok (held (type_at types n) (cell (get_or rows start []) n) (cell_fits Boolean types (get_or rows start []) n (fit start [] lt))) in
    let later = cells_from types rows n fit (start + 1) count (omega arith) in
    ap (λ o. cell_before start o (cells_at types (column n) rows (range_with_len (start + 1) count))) here
    ∙ ap (cell_before start (Ok (cell (get_or rows start []) n))) later
    ∙ ap (λ rs. Ok (map (λ row. cell row n) rs)) (sym (drop_more rows start [] lt))

pub whole_cells : (types : List SqlType) (rows : List (List Value)) (n : ℕ) (positions : List ℕ) (count : ℕ) → All (λ row. IsTrue (fits_row types row)) rows
    → positions ≡ range_with_len 0 count → count ≡ length rows
    → cells_at types (column n) rows positions ≡ Ok (map (λ row. cell row n) rows)
whole_cells types rows n positions count fit all e =
    ap (cells_at types (column n) rows) all ∙ cells_from types rows n fit 0 count (omega (arith, e))

-- what is found of the column is what the form gives
pub found : {E : Type 0} (types : List SqlType) (rows : List (List Value)) (form : Form) (n : ℕ) (positions : List ℕ) (count : ℕ) (kind : SqlType) (r : Result (Option TypedCells) E)
    → form ≡ column n → All (λ row. IsTrue (fits_row types row)) rows → positions ≡ range_with_len 0 count → count ≡ length rows
    → IfOk r (λ o. IfSome o (λ b. b ≡ record { kind = kind; cells = map (λ row. cell row n) rows }))
    → IfOk r (λ o. IfSome o (λ b. cells_at types form rows positions ≡ Ok b.cells))
found types rows form n positions count kind (Ok (Some b)) is fit all e same =
    ap (λ f. cells_at types f rows positions) is ∙ whole_cells types rows n positions count fit all e ∙ ap (λ (c : TypedCells). Ok c.cells) (sym same)
found types rows form n positions count kind (Ok None) is fit all e same = tt
found types rows form n positions count kind (Err fault) is fit all e same = tt
