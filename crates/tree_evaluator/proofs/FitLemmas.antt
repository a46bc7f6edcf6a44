-- Tables whose columns have the types that a scan says.
use Rattle.std.proofs.Common.{◌≡◌, ℕ, ◌+◌, ◌<◌, ◌≤◌, zero, suc, Bool, true, false, List, [], ◌∷◌, ◌++◌, length, get_or, take, map, refl, sym, ◌∙◌, arith, subst}
use Rattle.std.specs.Prelude.{IsTrue, ◌&&◌, ◌==◌}
use Rattle.std.proofs.lemmas.List.{take_more}
use Rattle.std.proofs.lemmas.List.Elements.{All-append, All-cons, All-map, All-nil}
use Rattle.sql_values.specs.declared.types.SqlType.{SqlType}
use Rattle.sql_values.specs.declared.value.Value.{Value}
use Rattle.sql_values.specs.declared.table.Table.{Table}
use Rattle.sql_values.specs.Blocks.{fits}
use Rattle.sql_values.specs.Cells.{cell, cut}
use Rattle.sql_values.specs.ColumnRows.{fits_row}
use Rattle.sql_functions.proofs.FitLemmas.{null_fits}
use Rattle.plan_trees.specs.Allowed.{scanned}
use Rattle.col_pages.specs.Fits.{AllFit}
use Rattle.sql_values.specs.Columns.{kinds}
use Rattle.tree_evaluator.specs.Fits.{ColumnFits, ColumnsFit, TablesFit}
use Rattle.tree_evaluator.specs.Stops.{rows_of_table}
use Rattle.tree_evaluator.proofs.LeafLemmas.{table_missing, table_there}

first_true : (a b : Bool) → a && b ≡ true → a ≡ true
first_true true b h = refl
first_true false b h = h

second_true : (a b : Bool) → a && b ≡ true → b ≡ true
second_true true b h = h
second_true false b h = cc

-- a cell of a column that has the type, or past the last one
cell_fits : (own : List SqlType) (row : List Value) (column : ℕ) (kind : SqlType) → fits_row own row ≡ true → ColumnFits own column kind → fits kind (cell row column) ≡ true
cell_fits [] [] column kind f h = null_fits kind
cell_fits [] (v ∷ row) column kind f h = cc
cell_fits (k ∷ own) [] column kind f h = cc
cell_fits (k ∷ own) (v ∷ row) zero kind f h = subst (λ t. fits t v ≡ true) h (first_true (fits k v) (fits_row own row) f)
cell_fits (k ∷ own) (v ∷ row) (suc column) kind f h = cell_fits own row column kind (second_true (fits k v) (fits_row own row) f) h

cut_fits : (own : List SqlType) (row : List Value) (columns : List ℕ) (types : List SqlType) → length types ≡ length columns → fits_row own row ≡ true → ColumnsFit own columns types
    → fits_row types (cut columns row) ≡ true
cut_fits own row [] [] l f h = refl
cut_fits own row [] (kind ∷ types) l f h = absurd (omega (arith, l))
cut_fits own row (column ∷ columns) [] l f h = absurd (omega (arith, l))
cut_fits own row (column ∷ columns) (kind ∷ types) l f h =
    rw (cell_fits own row column kind f h.0) (cut_fits own row columns types (omega (arith, l)) f h.1)

abbrev Fits : List SqlType → List Value → Type 0
Fits types row = IsTrue (fits_row types row)

pub rows_cut : (own : List SqlType) (rows : List (List Value)) (columns : List ℕ) (types : List SqlType) → length types ≡ length columns → AllFit own rows → ColumnsFit own columns types
    → AllFit types (map (cut columns) rows)
rows_cut own rows columns types l all h = All-map (Fits types) (cut columns) rows (λ k d lt. cut_fits own (get_or rows k d) columns types l (all k d lt) h)

pub scan_there : (tables : List Table) (n : ℕ) (t : Table) (columns : List ℕ) (types : List SqlType) → n < length tables → t ≡ get_or tables n t → TablesFit tables
    → length types ≡ length columns → ColumnsFit (kinds t.columns) columns types → AllFit types (scanned (map rows_of_table tables) n columns)
scan_there tables n t columns types lt e fit l h =
    let own : AllFit (kinds t.columns) t.rows = subst (λ (x : Table). AllFit (kinds x.columns) x.rows) (sym e) (fit n t lt) in
    subst (λ rows. AllFit types (map (cut columns) rows)) (sym (table_there tables n t lt e)) (rows_cut (kinds t.columns) t.rows columns types l own h)

pub scan_missing : (tables : List Table) (n : ℕ) (columns : List ℕ) (types : List SqlType) → length tables ≤ n → AllFit types (scanned (map rows_of_table tables) n columns)
scan_missing tables n columns types l = subst (λ rows. AllFit types (map (cut columns) rows)) (sym (table_missing tables n l)) (All-nil (Fits types))

-- one row more
pub fit_more : (types : List SqlType) (rows : List (List Value)) (i : ℕ) (row : List Value) → AllFit types (take i rows) → i < length rows → row ≡ get_or rows i [] → fits_row types row ≡ true
    → AllFit types (take (i + 1) rows)
fit_more types rows i row all l e fit =
    subst (AllFit types) (sym (take_more rows i [] l))
    (All-append (Fits types) (take i rows) (get_or rows i [] ∷ []) all (All-cons (Fits types) (get_or rows i []) [] (subst (λ r. fits_row types r ≡ true) e fit) (All-nil (Fits types))))

pub same_more : (types others : List SqlType) (i : ℕ) (d : SqlType) → take i types ≡ take i others → i < length types → i < length others
    → get_or types i d ≡ get_or others i d → take (i + 1) types ≡ take (i + 1) others
same_more types others i d h l m s = take_more types i d l ∙ (λ j. h j ++ s j ∷ []) ∙ sym (take_more others i d m)

pub has_some : (n : ℕ) → false ≡ (n == 0) → 0 < n
has_some zero e = cc
has_some (suc n) e = omega arith
