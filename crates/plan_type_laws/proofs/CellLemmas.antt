-- Rows of a values node that fit its types have them.
use Rattle.std.proofs.Common.{◌≡◌, ℕ, ◌+◌, List, [], ◌∷◌, ◌++◌, get_or, length, length-append, append_assoc, true, false, Option, Some, None, refl, sym, ◌∙◌, ap, subst}
use Rattle.std.specs.Cmp.Derive.{both_true}
use Rattle.std.specs.Prelude.{All, ◌&&◌, unwrap_or}
use Rattle.std.proofs.lemmas.List.Elements.{All-head, All-map, All-tail}
use Rattle.serde_json.specs.Data.{Data}
use Rattle.serde_json.specs.Find.{as_str}
use Rattle.sql_values.specs.declared.types.SqlType.{SqlType}
use Rattle.sql_values.specs.declared.types.SqlType.TheVariants.{Boolean, Bigint, Decimal, Varchar, Date}
use Rattle.sql_values.specs.declared.value.Value.{Value}
use Rattle.sql_values.specs.Blocks.{fits}
use Rattle.sql_values.specs.ColumnRows.{fits_row}
use Rattle.sql_values.specs.Texts.{value_of_text}
use Rattle.sql_values.specs.Types.{IsType, has_type, row_has_types}
use Rattle.sql_functions.specs.CallTypes.{type_at}
use Rattle.plan_grammar.specs.Json.{entries_in, text_of}
use Rattle.plan_docs.specs.Cells.{cell_by, cell_of, cells_from, misfit, row_of_entries, rows_of_node}
use Rattle.plan_docs.specs.Parts.{kinds_of}
use Rattle.plan_docs.specs.Words.{type_of}
use Rattle.col_pages.specs.Fits.{AllFit}
use Rattle.plan_spreads.proofs.EachLemmas.{first_true, second_true}
use Rattle.text_type_laws.proofs.TextLemmas.{parsed_has_type}
use Rattle.tree_type_laws.specs.TypedTrees.{HaveTypes}
use Rattle.plan_type_laws.proofs.FormLemmas.{named_type}

-- what stands for a text that writes no value does not fit
misfits : (kind : SqlType) → fits kind (misfit kind) ≡ false
misfits Boolean = refl
misfits Bigint = refl
misfits (Decimal p s) = refl
misfits Varchar = refl
misfits Date = refl

cell_typed : (kind : SqlType) (o : Option (List ℕ)) → IsType kind → fits kind (cell_by kind o) ≡ true → has_type kind (cell_by kind o) ≡ true
cell_typed kind None is f = refl
cell_typed kind (Some text) is f = by_value (value_of_text kind text) (parsed_has_type kind is text) f
  where
    by_value : (o : Option Value) → ((v : Value) → o ≡ Some v → has_type kind v ≡ true) → fits kind (unwrap_or o (misfit kind)) ≡ true
        → has_type kind (unwrap_or o (misfit kind)) ≡ true
    by_value None each f = let not : fits kind (misfit kind) ≡ false = misfits kind in cc
    by_value (Some v) each f = each v refl

type_here : (before : List SqlType) (kind : SqlType) (kinds : List SqlType) → type_at (before ++ kind ∷ kinds) (length before) ≡ kind
type_here [] kind kinds = refl
type_here (k ∷ before) kind kinds = type_here before kind kinds

-- the cells from the end of `before` on
cells_typed : (before kinds : List SqlType) (ds : List Data) → All IsType kinds → fits_row kinds (cells_from (before ++ kinds) (length before) ds) ≡ true
    → row_has_types kinds (cells_from (before ++ kinds) (length before) ds) ≡ true
cells_typed before [] [] are f = refl
cells_typed before [] (d ∷ ds) are f = cc
cells_typed before (kind ∷ kinds) [] are f = cc
cells_typed before (kind ∷ kinds) (d ∷ ds) are f =
    let types : List SqlType = before ++ kind ∷ kinds in
    let v : Value = cell_of kind d in
    let rest : List Value = cells_from types (length before + 1) ds in
    let here : type_at types (length before) ≡ kind = type_here before kind kinds in
    let fit : fits kind v && fits_row kinds rest ≡ true = subst (λ (k : SqlType). fits kind (cell_of k d) && fits_row kinds rest ≡ true) here f in
    let longer : length (before ++ kind ∷ []) ≡ length before + 1 = length-append before (kind ∷ []) in
    let same : cells_from ((before ++ kind ∷ []) ++ kinds) (length (before ++ kind ∷ [])) ds ≡ rest =
    ap (λ (ts : List SqlType). cells_from ts (length (before ++ kind ∷ [])) ds) (append_assoc before (kind ∷ []) kinds) ∙ ap (λ (n : ℕ). cells_from types n ds) longer in
    let first : has_type kind v ≡ true = cell_typed kind (as_str d) (All-head IsType kind kinds are) (first_true (fits kind v) (fits_row kinds rest) fit) in
    let others : row_has_types kinds rest ≡ true =
    subst (λ (vs : List Value). row_has_types kinds vs ≡ true) same
    (cells_typed (before ++ kind ∷ []) kinds ds (All-tail IsType kind kinds are)
    (subst (λ (vs : List Value). fits_row kinds vs ≡ true) (sym same) (second_true (fits kind v) (fits_row kinds rest) fit))) in
    subst (λ (k : SqlType). has_type kind (cell_of k d) && row_has_types kinds rest ≡ true) (sym here)
    (both_true first others)

-- each type of a list of types is a type
kinds_are_types : (ds : List Data) → All IsType (kinds_of ds)
kinds_are_types ds = All-map IsType type_of ds (λ k d within. named_type (text_of (get_or ds k d)))

abbrev Fits : List SqlType → List Value → Type 0
Fits kinds row = fits_row kinds row ≡ true

rows_typed : (kinds : List SqlType) (ds : List Data) → All IsType kinds → AllFit kinds (rows_of_node kinds ds) → HaveTypes kinds (rows_of_node kinds ds)
rows_typed kinds [] are fit = refl
rows_typed kinds (d ∷ ds) are fit =
    let here : row_has_types kinds (row_of_entries kinds d) ≡ true = cells_typed [] kinds (entries_in d) are (All-head (Fits kinds) (row_of_entries kinds d) (rows_of_node kinds ds) fit) in
    let rest : HaveTypes kinds (rows_of_node kinds ds) = rows_typed kinds ds are (All-tail (Fits kinds) (row_of_entries kinds d) (rows_of_node kinds ds) fit) in
    rw here rest

pub constants_typed : (ts ds : List Data) → AllFit (kinds_of ts) (rows_of_node (kinds_of ts) ds) → HaveTypes (kinds_of ts) (rows_of_node (kinds_of ts) ds)
constants_typed ts ds fit = rows_typed (kinds_of ts) ds (kinds_are_types ts) fit
