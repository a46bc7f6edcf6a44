-- A scan over tables whose rows have the types of their columns.
use Rattle.std.proofs.Common.{◌≡◌, ℕ, zero, suc, List, [], ◌∷◌, length, get_or, map, true, refl, subst, arith}
use Rattle.std.specs.Cmp.Derive.{both_true}
use Rattle.std.specs.Prelude.{slice_get}
use Rattle.std.specs.List.{list_all}
use Rattle.std.proofs.lemmas.List.Sums.{AllPass-from_list_all}
use Rattle.sql_values.specs.declared.types.SqlType.{SqlType}
use Rattle.sql_values.specs.declared.table.Table.{Table}
use Rattle.sql_values.specs.declared.value.Value.{Value}
use Rattle.sql_values.specs.Cells.{cell, cut}
use Rattle.sql_values.specs.ColumnRows.{fits_row}
use Rattle.sql_values.specs.Types.{has_type, row_has_types}
use Rattle.sql_values.proofs.BlockLemmas.{typed_fits}
use Rattle.plan_docs.specs.declared.plan.TableDoc.{TableDoc}
use Rattle.plan_trees.specs.Allowed.{scanned}
use Rattle.col_pages.specs.Fits.{AllFit}
use Rattle.sql_values.specs.Columns.{kinds}
use Rattle.tree_evaluator.specs.Fits.{ColumnFits, ColumnsFit, TablesFit}
use Rattle.tree_evaluator.specs.Stops.{rows_of_table}
use Rattle.plan_fit_laws.specs.Tables.{HaveColumns}
use Rattle.plan_spreads.proofs.EachLemmas.{first_true, second_true}
use Rattle.plan_fit_laws.proofs.ScanLemmas.{ScanFits}
use Rattle.tree_type_laws.specs.TypedTrees.{HaveTypes}
use Rattle.plan_type_laws.specs.Tables.{TablesTyped}

-- a cell of a column that has the type, or past the last one
cell_typed : (own : List SqlType) (row : List Value) (column : ℕ) (kind : SqlType) → row_has_types own row ≡ true → ColumnFits own column kind → has_type kind (cell row column) ≡ true
cell_typed [] [] column kind f h = refl
cell_typed [] (v ∷ row) column kind f h = cc
cell_typed (k ∷ own) [] column kind f h = cc
cell_typed (k ∷ own) (v ∷ row) zero kind f h = subst (λ t. has_type t v ≡ true) h (first_true (has_type k v) (row_has_types own row) f)
cell_typed (k ∷ own) (v ∷ row) (suc column) kind f h = cell_typed own row column kind (second_true (has_type k v) (row_has_types own row) f) h

cut_typed : (own : List SqlType) (row : List Value) (columns : List ℕ) (types : List SqlType) → length types ≡ length columns → row_has_types own row ≡ true
    → ColumnsFit own columns types → row_has_types types (cut columns row) ≡ true
cut_typed own row [] [] l f h = refl
cut_typed own row [] (kind ∷ types) l f h = absurd (omega (arith, l))
cut_typed own row (column ∷ columns) [] l f h = absurd (omega (arith, l))
cut_typed own row (column ∷ columns) (kind ∷ types) l f h = rw (cell_typed own row column kind f h.0) (cut_typed own row columns types (omega (arith, l)) f h.1)

rows_cut : (own : List SqlType) (rows : List (List Value)) (columns : List ℕ) (types : List SqlType) → length types ≡ length columns → HaveTypes own rows
    → ColumnsFit own columns types → HaveTypes types (map (cut columns) rows)
rows_cut own [] columns types l f h = refl
rows_cut own (row ∷ rows) columns types l f h =
    let first = first_true (row_has_types own row) (list_all (row_has_types own) rows) f in
    let rest = second_true (row_has_types own row) (list_all (row_has_types own) rows) f in
    both_true
    (cut_typed own row columns types l first h) (rows_cut own rows columns types l rest h)

pub scan_typed : (docs : List TableDoc) (tables : List Table) (n : ℕ) (columns : List ℕ) (types : List SqlType) → HaveColumns docs tables → TablesTyped tables
    → length types ≡ length columns → ScanFits (slice_get docs n) columns types → HaveTypes types (scanned (map rows_of_table tables) n columns)
scan_typed docs [] n columns types own typed beside h = refl
scan_typed [] (t ∷ tables) n columns types own typed beside h = absurd cc
scan_typed (doc ∷ docs) (t ∷ tables) zero columns types own typed beside h =
    let same : t.columns ≡ doc.columns = cc own in
    let rows : HaveTypes (kinds t.columns) t.rows = typed 0 t (omega arith) in
    rows_cut (kinds doc.columns) t.rows columns types beside (subst (λ cs. HaveTypes (kinds cs) t.rows) same rows) h
scan_typed (doc ∷ docs) (t ∷ tables) (suc n) columns types own typed beside h =
    let rest : HaveColumns docs tables = cc own in
    scan_typed docs tables n columns types rest (λ k d within. typed (suc k) d (omega (arith, within))) beside h

-- rows that have types fit them
row_fits : (types : List SqlType) (row : List Value) → row_has_types types row ≡ true → fits_row types row ≡ true
row_fits [] [] h = refl
row_fits [] (v ∷ row) h = cc
row_fits (kind ∷ types) [] h = cc
row_fits (kind ∷ types) (v ∷ row) h =
    both_true (typed_fits kind v (first_true (has_type kind v) (row_has_types types row) h))
    (row_fits types row (second_true (has_type kind v) (row_has_types types row) h))

rows_fit : (types : List SqlType) (rows : List (List Value)) → HaveTypes types rows → AllFit types rows
rows_fit types rows h = λ k d within. row_fits types (get_or rows k d) (AllPass-from_list_all (row_has_types types) rows h k d within)

pub tables_fit : (tables : List Table) → TablesTyped tables → TablesFit tables
tables_fit tables typed = λ k d within. rows_fit (kinds (get_or tables k d).columns) (get_or tables k d).rows (typed k d within)
