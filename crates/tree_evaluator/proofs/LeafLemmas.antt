-- Rows that are cut out of a table in parts, and rows that are cut to all of their columns.
use Rattle.std.proofs.Common.{◌≡◌, ℕ, ◌+◌, ◌-◌, ◌<◌, ◌≤◌, zero, suc, Bool, true, false, List, [], ◌∷◌, ◌++◌, length, get_or, take, drop, map, refl, ap, sym, ◌∙◌, append_assoc, length-append, arith, subst}
use Rattle.std.specs.Prelude.{All, IsTrue, ◌&&◌}
use Rattle.sql_values.specs.declared.table.Table.{Table}
use Rattle.plan_trees.specs.Allowed.{table_rows}
use Rattle.tree_evaluator.specs.Stops.{rows_of_table}
use Rattle.std.specs.List.{range_with_len}
use Rattle.std.proofs.lemmas.List.{map-append}
use Rattle.std.proofs.lemmas.List.Elements.{All-cons, All-drop, All-map, All-nil, All-take}
use Rattle.std.proofs.Math.Seq.{take-add}
use Rattle.sql_values.specs.declared.types.SqlType.{SqlType}
use Rattle.sql_values.specs.declared.value.Value.{Value}
use Rattle.sql_values.specs.Cells.{cell, cut}
use Rattle.sql_values.specs.Blocks.{fits}
use Rattle.sql_values.specs.ColumnRows.{fits_row}
use Rattle.col_pages.specs.Fits.{AllFit}
use Rattle.page_processor.proofs.FilterLemmas.{first_fits, rest_fits}

pub part_fits : (types : List SqlType) (columns : List ℕ) (rows : List (List Value)) (low m : ℕ) → All (λ row. IsTrue (fits_row types (cut columns row))) rows
    → AllFit types (map (cut columns) (take m (drop low rows)))
part_fits types columns rows low m all =
    All-map (λ row. IsTrue (fits_row types row)) (cut columns) (take m (drop low rows))
    (All-take (λ row. IsTrue (fits_row types (cut columns row))) m (drop low rows) (All-drop (λ row. IsTrue (fits_row types (cut columns row))) low rows all))

pub part_more : (columns : List ℕ) (rows : List (List Value)) (low m : ℕ) → map (cut columns) (take low rows) ++ map (cut columns) (take m (drop low rows)) ≡ map (cut columns) (take (low + m) rows)
part_more columns rows low m = sym (ap (map (cut columns)) (take-add low m rows) ∙ map-append (cut columns) (take low rows) (take m (drop low rows)))

-- the first rows of a page and of what follows it
pub limit_more : (room : ℕ) (xs ys : List (List Value)) → take room (xs ++ ys) ≡ take room xs ++ take (room - length xs) ys
limit_more zero xs ys = let none : zero - length xs ≡ zero = omega arith in sym (ap (λ n. take n ys) none)
limit_more (suc room) [] ys = let all : suc room - 0 ≡ suc room = omega arith in sym (ap (λ n. take n ys) all)
limit_more (suc room) (x ∷ xs) ys =
    let rest : suc room - suc (length xs) ≡ room - length xs = omega arith in
    ap (λ zs. x ∷ zs) (limit_more room xs ys) ∙ ap (λ n. x ∷ (take room xs ++ take n ys)) (sym rest)

-- a row cut to all of its columns
cell_seam : (done row : List Value) (v : Value) (n : ℕ) → n ≡ length done → cell (done ++ v ∷ row) n ≡ v
cell_seam [] row v n e = ap (cell (v ∷ row)) e
cell_seam (d ∷ done) row v n e = ap (cell (d ∷ (done ++ v ∷ row))) e ∙ cell_seam done row v (length done) refl

cells_from : (done row : List Value) (n : ℕ) → n ≡ length done → map (cell (done ++ row)) (range_with_len n (length row)) ≡ row
cells_from done [] n e = refl
cells_from done (v ∷ row) n e =
    let later : map (cell ((done ++ v ∷ []) ++ row)) (range_with_len (n + 1) (length row)) ≡ row =
    cells_from (done ++ v ∷ []) row (n + 1) (omega (arith, e, length-append done (v ∷ []))) in
    let after : map (cell (done ++ v ∷ row)) (range_with_len (n + 1) (length row)) ≡ row =
    ap (λ all. map (cell all) (range_with_len (n + 1) (length row))) (sym (append_assoc done (v ∷ []) row)) ∙ later in
    (λ i. cell_seam done row v n e i ∷ after i)

fits_length : (types : List SqlType) (row : List Value) → fits_row types row ≡ true → length row ≡ length types
fits_length [] [] h = refl
fits_length [] (v ∷ row) h = cc
fits_length (kind ∷ types) [] h = cc
fits_length (kind ∷ types) (v ∷ row) h = ap suc (fits_length types row (second (fits kind v) (fits_row types row) h))
  where
    second : (a b : Bool) → a && b ≡ true → b ≡ true
    second true b h = h
    second false b h = cc

whole_row : (types : List SqlType) (row : List Value) → fits_row types row ≡ true → cut (range_with_len 0 (length types)) row ≡ row
whole_row types row fit = ap (λ n. cut (range_with_len 0 n) row) (sym (fits_length types row fit)) ∙ cells_from [] row 0 refl

pub whole_rows : (types : List SqlType) (rows : List (List Value)) → AllFit types rows → map (cut (range_with_len 0 (length types))) rows ≡ rows
whole_rows types [] all = refl
whole_rows types (row ∷ rows) all =
    (λ i. whole_row types row (first_fits types row rows all) i ∷ whole_rows types rows (rest_fits types row rows all) i)

pub whole_fit : (types : List SqlType) (rows : List (List Value)) → AllFit types rows → All (λ row. IsTrue (fits_row types (cut (range_with_len 0 (length types)) row))) rows
whole_fit types rows all = λ k d l. subst (λ row. IsTrue (fits_row types row)) (sym (whole_row types (get_or rows k d) (all k d l))) (all k d l)

-- the rows of a table that is there, or is not
pub table_there : (tables : List Table) (n : ℕ) (t : Table) → n < length tables → t ≡ get_or tables n t → table_rows (map rows_of_table tables) n ≡ t.rows
table_there [] n t l e = absurd (omega arith)
table_there (u ∷ tables) zero t l e = ap (λ (x : Table). x.rows) (sym e)
table_there (u ∷ tables) (suc n) t l e = table_there tables n t (omega arith) e

pub table_missing : (tables : List Table) (n : ℕ) → length tables ≤ n → table_rows (map rows_of_table tables) n ≡ []
table_missing [] n l = refl
table_missing (u ∷ tables) zero l = absurd (omega arith)
table_missing (u ∷ tables) (suc n) l = table_missing tables n (omega arith)

pub first_fit : (types : List SqlType) (columns : List ℕ) (rows table : List (List Value)) → table ≡ rows → AllFit types (map (cut columns) table) → All (λ row. IsTrue (fits_row types (cut columns row))) rows
first_fit types columns rows table e all =
    All-unmap types columns rows (subst (λ rs. AllFit types (map (cut columns) rs)) e all)
  where
    All-unmap : (types : List SqlType) (columns : List ℕ) (rows : List (List Value)) → AllFit types (map (cut columns) rows) → All (λ row. IsTrue (fits_row types (cut columns row))) rows
    All-unmap types columns [] all = All-nil (λ row. IsTrue (fits_row types (cut columns row)))
    All-unmap types columns (row ∷ rows) all =
        All-cons (λ row. IsTrue (fits_row types (cut columns row))) row rows (first_fits types (cut columns row) (map (cut columns) rows) all)
        (All-unmap types columns rows (rest_fits types (cut columns row) (map (cut columns) rows) all))
