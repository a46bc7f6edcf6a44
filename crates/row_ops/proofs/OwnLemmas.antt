-- A filter whose columns are those of its input.
use Rattle.std.proofs.Common.{◌≡◌, ℕ, zero, suc, ◌+◌, ◌<◌, List, [], ◌∷◌, ◌++◌, Bool, true, false, length, get_or, map, take, refl, sym, ap, subst, ◌∙◌, arith, append_assoc, length-append, Some}
use Rattle.std.specs.Prelude.{◌&&◌, Ok, Err, if◌then◌else◌}
use Rattle.std.specs.List.{range_with_len}
use Rattle.std.proofs.lemmas.List.{map-append, take_more}
use Rattle.std.proofs.lemmas.Option.{unwrap_or-slice_get}
use Rattle.std.proofs.Math.Seq.{get_or-append_seam}
use Rattle.sql_values.specs.declared.types.SqlType.{SqlType}
use Rattle.sql_values.specs.declared.types.SqlType.TheVariants.{Boolean}
use Rattle.sql_values.specs.declared.value.Value.TheVariants.{Null}
use Rattle.sql_values.specs.Cells.{cell}
use Rattle.sql_values.specs.Blocks.{fits}
use Rattle.sql_values.specs.ColumnRows.{fits_row}
use Rattle.sql_functions.specs.Outcomes.{Outcome}
use Rattle.sql_functions.specs.Truth.{is_true}
use Rattle.sql_exprs.specs.declared.expr.Expr.{Expr}
use Rattle.sql_exprs.specs.declared.expr.Expr.TheFolds.{fold-roll-Expr}
use Rattle.sql_exprs.specs.declared.expr.Expr.TheVariants.{Column, rolls-Column}
use Rattle.sql_exprs.specs.Forms.{Form, branch_step, column, form_step, form_view}
use Rattle.sql_exprs.specs.Meaning.{kind_of, value_of}
use Rattle.relation_laws.specs.Aggregates.{all_values, with_first}
use Rattle.relation_laws.specs.Verdicts.{Verdict, keeps, drops, verdict_of}
use Rattle.plan_trees.specs.Judges.{filter_judge, filtered, project_judge}
use Rattle.page_processor.specs.declared.judged.Judged.{Judged}
use Rattle.page_processor.specs.Judged.{judged}
use Rattle.col_pages.specs.Fits.{AllFit}
use Rattle.page_processor.proofs.FilterLemmas.{Agree, first_fits, rest_fits, same_failure, same_rows}
use Rattle.operator_core.specs.Rows.{Row}
use Rattle.row_ops.specs.RowJudges.{and_then, columns_in, kinds_of_forms, row_judge}

-- the columns of a row are the row
columns-from : (types : List SqlType) (done row : Row) (n : ℕ) → n ≡ length done
    → all_values (map (λ c. value_of types c (done ++ row)) (map column (range_with_len n (length row)))) ≡ Ok row
columns-from types done [] n e = refl
columns-from types done (v ∷ row) n e =
    let here : cell (done ++ v ∷ row) n ≡ v =
    unwrap_or-slice_get (done ++ v ∷ row) n Null ∙ ap (λ (k : ℕ). get_or (done ++ v ∷ row) k Null) e ∙ get_or-append_seam done v row Null in
    let later : all_values (map (λ c. value_of types c ((done ++ v ∷ []) ++ row)) (map column (range_with_len (n + 1) (length row)))) ≡ Ok row =
    columns-from types (done ++ v ∷ []) row (n + 1) (omega (arith, e, length-append done (v ∷ []))) in
    let same : (done ++ v ∷ []) ++ row ≡ done ++ v ∷ row = append_assoc done (v ∷ []) row in
    let rest : all_values (map (λ c. value_of types c (done ++ v ∷ row)) (map column (range_with_len (n + 1) (length row)))) ≡ Ok row =
    subst (λ (r : Row). all_values (map (λ c. value_of types c r) (map column (range_with_len (n + 1) (length row)))) ≡ Ok row) same later in
    (λ i. with_first (here i) (rest i))

second_true : (a b : Bool) → (a && b) ≡ true → b ≡ true
second_true true b h = h
second_true false b h = cc

pub fits-width : (types : List SqlType) (row : Row) → fits_row types row ≡ true → length row ≡ length types
fits-width [] [] fit = refl
fits-width [] (v ∷ row) fit = cc
fits-width (kind ∷ types) [] fit = cc
fits-width (kind ∷ types) (v ∷ row) fit = ap suc (fits-width types row (second_true (fits kind v) (fits_row types row) fit))

-- a row that fits is the row of its columns
pub columns-keep : (types : List SqlType) (row : Row) → fits_row types row ≡ true → project_judge types (columns_in types) row ≡ keeps row
columns-keep types row fit =
    ap verdict_of
    (subst (λ (k : ℕ). all_values (map (λ c. value_of types c row) (map column (range_with_len 0 k))) ≡ Ok row) (fits-width types row fit) (columns-from types [] row 0 refl))

kept-at : (row : Row) (next : Row → Verdict) (b : Bool) → next row ≡ keeps row → and_then (if b then keeps row else drops) next ≡ (if b then keeps row else drops)
kept-at row next true e = e
kept-at row next false e = refl

filtered-at : (row : Row) (next : Row → Verdict) (here : Outcome) → next row ≡ keeps row → and_then (filtered row here) next ≡ filtered row here
filtered-at row next (Ok v) e = kept-at row next (is_true v) e
filtered-at row next (Err kind) e = refl

pub filters-agree : (types : List SqlType) (predicate : Form) (rows : List Row) → AllFit types rows
    → Agree (row_judge types (Some predicate) (columns_in types)) (filter_judge types predicate) rows
filters-agree types predicate [] fit = tt
filters-agree types predicate (row ∷ rows) fit = (
  filtered-at row (project_judge types (columns_in types)) (value_of types predicate row) (columns-keep types row (first_fits types row rows fit)),
  filters-agree types predicate rows (rest_fits types row rows fit),
)

pub view-column : (n : ℕ) → form_view (Column n) ≡ column n
view-column n = ap form_view (sym (rolls-Column n)) ∙ fold-roll-Expr Form (Form × Form) form_step branch_step _

ranged : (n m : ℕ) → range_with_len n (suc m) ≡ range_with_len n m ++ (n + m) ∷ []
ranged n zero = ap (λ k. k ∷ []) (omega arith)
ranged n (suc m) = ap (λ ks. n ∷ ks) (ranged (n + 1) m ∙ ap (λ k. range_with_len (n + 1) m ++ k ∷ []) (omega arith))

-- one column more
pub columns-more : (held next : List Expr) (n : ℕ) → map form_view held ≡ map column (range_with_len 0 n) → next ≡ held ++ Column n ∷ []
    → map form_view next ≡ map column (range_with_len 0 (n + 1))
columns-more held next n h e =
    let count : suc n ≡ n + 1 = omega arith in
    let last : column n ≡ column (0 + n) = ap column (omega arith) in
    ap (map form_view) e ∙ map-append form_view held (Column n ∷ []) ∙ (λ i. h i ++ (view-column n ∙ last) i ∷ [])
    ∙ sym (map-append column (range_with_len 0 n) ((0 + n) ∷ [])) ∙ ap (map column) (sym (ranged 0 n)) ∙ ap (λ (k : ℕ). map column (range_with_len 0 k)) count

-- the types of the columns are those of the input
kind-at : (done types : List SqlType) (kind : SqlType) (n : ℕ) → n ≡ length done → kind_of (done ++ kind ∷ types) (column n) ≡ kind
kind-at done types kind n e =
    unwrap_or-slice_get (done ++ kind ∷ types) n Boolean ∙ ap (λ (k : ℕ). get_or (done ++ kind ∷ types) k Boolean) e ∙ get_or-append_seam done kind types Boolean

kinds-from : (done types : List SqlType) (n : ℕ) → n ≡ length done → kinds_of_forms (done ++ types) (map column (range_with_len n (length types))) ≡ types
kinds-from done [] n e = refl
kinds-from done (kind ∷ types) n e =
    let same : (done ++ kind ∷ []) ++ types ≡ done ++ kind ∷ types = append_assoc done (kind ∷ []) types in
    let later : kinds_of_forms ((done ++ kind ∷ []) ++ types) (map column (range_with_len (n + 1) (length types))) ≡ types =
    kinds-from (done ++ kind ∷ []) types (n + 1) (omega (arith, e, length-append done (kind ∷ []))) in
    let rest : kinds_of_forms (done ++ kind ∷ types) (map column (range_with_len (n + 1) (length types))) ≡ types =
    subst (λ (ts : List SqlType). kinds_of_forms ts (map column (range_with_len (n + 1) (length types))) ≡ types) same later in
    (λ i. kind-at done types kind n e i ∷ rest i)

own_kinds : (types : List SqlType) → kinds_of_forms types (columns_in types) ≡ types
own_kinds types = kinds-from [] types 0 refl

pub own-kinds : (types : List SqlType) (columns : List Form) (n : ℕ) → columns ≡ map column (range_with_len 0 n) → n ≡ length types → kinds_of_forms types columns ≡ types
own-kinds types columns n same count = ap (kinds_of_forms types) (same ∙ ap (λ (k : ℕ). map column (range_with_len 0 k)) count) ∙ own_kinds types

-- what a filter keeps of a page is what its columns are of that
pub filter-alone : (types : List SqlType) (predicate : Form) (columns : List Form) (n : ℕ) (rows : List Row) (kept : Judged) → AllFit types rows
    → columns ≡ map column (range_with_len 0 n) → n ≡ length types → kept ≡ judged (filter_judge types predicate) types rows
    → kept ≡ judged (row_judge types (Some predicate) columns) (kinds_of_forms types columns) rows
filter-alone types predicate columns n rows kept fit same count k =
    let theirs = row_judge types (Some predicate) (columns_in types) in
    let judge = filter_judge types predicate in
    let agree = filters-agree types predicate rows fit in
    let own : columns ≡ columns_in types = same ∙ ap (λ (k : ℕ). map column (range_with_len 0 k)) count in
    let whole : judged theirs (kinds_of_forms types (columns_in types)) rows ≡ judged judge types rows =
    (λ i. record { page = record { types = own_kinds types i; rows = same_rows theirs judge rows agree i }; failure = same_failure theirs judge rows agree i }) in
    k ∙ sym whole ∙ ap (λ cs. judged (row_judge types (Some predicate) cs) (kinds_of_forms types cs) rows) (sym own)

-- one place more at which a column of the input stands
pub column-there : (columns : List Expr) (n : ℕ) (expr : Expr) → n < length columns → expr ≡ get_or columns n expr → form_view expr ≡ column n
    → map form_view (take n columns) ≡ map column (range_with_len 0 n) → map form_view (take (n + 1) columns) ≡ map column (range_with_len 0 (n + 1))
column-there columns n expr there is here before =
    let count : suc n ≡ n + 1 = omega arith in
    let last : column n ≡ column (0 + n) = ap column (omega arith) in
    ap (map form_view) (take_more columns n expr there) ∙ map-append form_view (take n columns) (get_or columns n expr ∷ [])
    ∙ (λ i. before i ++ (ap form_view (sym is) ∙ here ∙ last) i ∷ [])
    ∙ sym (map-append column (range_with_len 0 n) ((0 + n) ∷ [])) ∙ ap (map column) (sym (ranged 0 n)) ∙ ap (λ (k : ℕ). map column (range_with_len 0 k)) count
