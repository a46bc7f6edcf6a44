-- Rows of a values node: as wide as the types say, and each cell of its type.
use Rattle.std.proofs.Common.{◌≡◌, ℕ, ◌+◌, ◌≤◌, suc, List, [], ◌∷◌, ◌++◌, length, length-append, append_assoc, Bool, true, false, Option, Some, None, refl, ap, sym, ◌∙◌, subst, arith}
use Rattle.std.specs.Prelude.{All, IsTrue, ◌&&◌, slice_get, if◌then◌else◌}
use Rattle.std.proofs.lemmas.List.Elements.{All-cons, All-head, All-nil, All-tail}
use Rattle.serde_json.specs.Data.{Data}
use Rattle.sql_values.specs.declared.types.SqlType.{SqlType}
use Rattle.sql_values.specs.declared.value.Value.{Value}
use Rattle.sql_values.specs.Blocks.{fits}
use Rattle.sql_values.specs.Cells.{cell}
use Rattle.sql_values.specs.ColumnRows.{fits_row}
use Rattle.plan_grammar.specs.Json.{entries_in}
use Rattle.plan_docs.specs.Cells.{cells_from, row_of_entries, rows_of_node}
use Rattle.plan_docs.specs.Words.{small}
use Rattle.plan_types.specs.Cells.{misfit_from, misfit_in, or_later}
use Rattle.col_pages.specs.Fits.{AllFit}
use Rattle.plan_fit_laws.proofs.NumberLemmas.{small_same}

-- each row has so many cells
abbrev pub AreWide : ℕ → List (List Value) → Type 0
AreWide width rows = All (λ row. length row ≡ width) rows

cells_long : (types : List SqlType) (i : ℕ) (ds : List Data) → length (cells_from types i ds) ≡ length ds
cells_long types i [] = refl
cells_long types i (d ∷ ds) = ap suc (cells_long types (i + 1) ds)

-- a row has as many cells as it has entries
pub rows_wide : (types : List SqlType) (width : ℕ) (ds : List Data) → ((j : ℕ) (d : Data) → slice_get ds j ≡ Some d → length (entries_in d) ≡ width)
    → AreWide width (rows_of_node types ds)
rows_wide types width [] each = All-nil (λ row. length row ≡ width)
rows_wide types width (d ∷ ds) each =
    All-cons (λ row. length row ≡ width) (row_of_entries types d) (rows_of_node types ds) (cells_long types 0 (entries_in d) ∙ each 0 d refl)
    (rows_wide types width ds (λ j e at. each (suc j) e at))

cell_at : (before : List Value) (v : Value) (left : List Value) → cell (before ++ v ∷ left) (length before) ≡ v
cell_at [] v left = refl
cell_at (w ∷ before) v left = cell_at before v left

-- the cells from the end of `before` on have these types
cells_fit : (kinds : List SqlType) (before left : List Value) → length left ≡ length kinds → length before + length kinds ≤ 256
    → misfit_in kinds (length before) (before ++ left) ≡ None → IsTrue (fits_row kinds left)
cells_fit [] before [] beside few e = refl
cells_fit [] before (v ∷ left) beside few e = absurd (omega (arith, beside))
cells_fit (kind ∷ kinds) before [] beside few e = absurd (omega (arith, beside))
cells_fit (kind ∷ kinds) before (v ∷ left) beside few e =
    let same : small (length before) ≡ length before = small_same (length before) (omega (arith, few)) in
    let found : cell (before ++ v ∷ left) (small (length before)) ≡ v = ap (cell (before ++ v ∷ left)) same ∙ cell_at before v left in
    let here = subst (λ (w : Value). (if fits kind w then misfit_in kinds (length before + 1) (before ++ v ∷ left) else Some (length before)) ≡ None) found e in
    let longer : length (before ++ v ∷ []) ≡ length before + 1 = length-append before (v ∷ []) in
    by_test (fits kind v) here (λ e2. cells_fit kinds (before ++ v ∷ []) left (omega (arith, beside)) (omega (arith, longer, few))
    (subst (λ (n : ℕ). misfit_in kinds n ((before ++ v ∷ []) ++ left) ≡ None) (sym longer)
    (subst (λ (row : List Value). misfit_in kinds (length before + 1) row ≡ None) (sym (append_assoc before (v ∷ []) left)) e2)))
  where
    by_test : (b : Bool) → (if b then misfit_in kinds (length before + 1) (before ++ v ∷ left) else Some (length before)) ≡ None
        → (misfit_in kinds (length before + 1) (before ++ v ∷ left) ≡ None → IsTrue (fits_row kinds left)) → IsTrue (b && fits_row kinds left)
    by_test false h rest = cc
    by_test true h rest = rest h

none_first : (i : ℕ) (o : Option ℕ) (later : Option (ℕ × ℕ)) → or_later i o later ≡ None → (o ≡ None) × (later ≡ None)
none_first i None later e = (refl, e)
none_first i (Some j) later e = cc

-- where no cell is reported, each row fits
pub rows_fit : (kinds : List SqlType) (i : ℕ) (rows : List (List Value)) → length kinds ≤ 256 → AreWide (length kinds) rows → misfit_from kinds i rows ≡ None → AllFit kinds rows
rows_fit kinds i [] few wide e = All-nil (λ row. IsTrue (fits_row kinds row))
rows_fit kinds i (row ∷ rows) few wide e =
    let none = none_first i (misfit_in kinds 0 row) (misfit_from kinds (i + 1) rows) e in
    All-cons (λ row. IsTrue (fits_row kinds row)) row rows
    (cells_fit kinds [] row (All-head (λ row. length row ≡ length kinds) row rows wide) (omega (arith, few)) none.0)
    (rows_fit kinds (i + 1) rows few (All-tail (λ row. length row ≡ length kinds) row rows wide) none.1)
