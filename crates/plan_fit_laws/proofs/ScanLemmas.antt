-- A scan of a document: its table is declared, its columns are the table's, and they have the table's types.
use Rattle.std.proofs.Common.{◌≡◌, ℕ, ◌+◌, ◌<◌, ◌≤◌, zero, suc, List, [], ◌∷◌, length, map, Bool, true, false, cond, Option, Some, None, refl, ap, sym, ◌∙◌, subst, arith, add-one}
use Rattle.std.specs.Prelude.{slice_get, if◌then◌else◌, All, ◌||◌, option_map}
use Rattle.std.specs.List.{find, list_any}
use Rattle.std.proofs.lemmas.List.{length-map}
use Rattle.std.proofs.lemmas.List.Elements.{All-cons, All-nil}
use Rattle.std.proofs.lemmas.Option.{slice_get-map}
use Rattle.serde_json.specs.Data.{Data}
use Rattle.sql_values.specs.declared.types.SqlType.{SqlType}
use Rattle.json_paths.specs.declared.key.Key.TheVariants as key
use Rattle.plan_grammar.specs.Json.{entries_under, text_of, text_under}
use Rattle.plan_checks.specs.Names.{has_column, scan_has, table_named}
use Rattle.plan_docs.specs.declared.plan.TableDoc.{TableDoc}
use Rattle.plan_docs.specs.Documents.{table_of}
use Rattle.plan_docs.specs.Names.{column_place, column_type, columns_in, has_name, place_named, places_of, scanned_columns, type_in, types_named}
use Rattle.plan_docs.specs.Names as names
use Rattle.plan_docs.specs.Parts.{column_of, columns_of}
use Rattle.plan_docs.specs.Words.{small}
use Rattle.sql_values.specs.Columns.{kinds}
use Rattle.tree_evaluator.specs.Fits.{ColumnFits, ColumnsFit, IsOrMissing}
use Rattle.plan_fit_laws.proofs.NumberLemmas.{small_same}

-- the columns of a declared table, if there is one, have these types at these places
abbrev pub ScanFits : Option TableDoc → List ℕ → List SqlType → Type 0
ScanFits None columns types = Unit {0}
ScanFits (Some doc) columns types = ColumnsFit (kinds doc.columns) columns types

-- the tables of a document, and the columns of each, are within the limits
pub record IsNarrow (document : Data) : Type 0 where
  pub tables : length (entries_under key.Tables document) ≤ 64
  pub columns : (i : ℕ) (t : Data) → slice_get (entries_under key.Tables document) i ≡ Some t → length (entries_under key.Columns t) ≤ 256

pub place_within : (t : List ℕ) (ds : List Data) → place_named t ds ≤ length ds
place_within t [] = omega arith
place_within t (d ∷ ds) = by_test (has_name t d) (place_named t ds) (length ds) (place_within t ds)
  where
    by_test : (b : Bool) (n m : ℕ) → n ≤ m → (if b then 0 else n + 1) ≤ suc m
    by_test true n m h = omega arith
    by_test false n m h = omega (arith, h)

-- the type at a name's place is the type that the name has
place_fits : (t : List ℕ) (cs : List Data) → IsOrMissing (slice_get (kinds (columns_of cs)) (place_named t cs)) (type_in (find (has_name t) cs))
place_fits t [] = tt
place_fits t (c ∷ cs) = by_test (has_name t c) (place_fits t cs)
  where
    by_test : (b : Bool) → IsOrMissing (slice_get (kinds (columns_of cs)) (place_named t cs)) (type_in (find (has_name t) cs))
        → IsOrMissing (slice_get (kinds (columns_of (c ∷ cs))) (if b then 0 else place_named t cs + 1)) (type_in (cond b (Some c) (find (has_name t) cs)))
    by_test true h = refl
    by_test false h =
        subst (λ (n : ℕ). IsOrMissing (slice_get (kinds (columns_of (c ∷ cs))) n) (type_in (find (has_name t) cs))) (sym (add-one (place_named t cs))) h

columns_fit : (cs : List Data) (ns : List Data) → length cs ≤ 256 → ColumnsFit (kinds (columns_of cs)) (places_of cs ns) (types_named cs ns)
columns_fit cs [] h = tt
columns_fit cs (n ∷ ns) h =
    let within = place_within (text_of n) cs in
    let same : small (place_named (text_of n) cs) ≡ place_named (text_of n) cs = small_same (place_named (text_of n) cs) (omega (arith, within, h)) in
    (subst (λ (p : ℕ). ColumnFits (kinds (columns_of cs)) p (column_type cs n)) (sym same) (place_fits (text_of n) cs), columns_fit cs ns h)

pub scan_fits : (ts : List Data) (n : ℕ) (ns : List Data) → ((i : ℕ) (t : Data) → slice_get ts i ≡ Some t → length (entries_under key.Columns t) ≤ 256)
    → ScanFits (slice_get (map table_of ts) n) (places_of (columns_in (slice_get ts n)) ns) (types_named (columns_in (slice_get ts n)) ns)
scan_fits [] n ns narrow = tt
scan_fits (t ∷ ts) zero ns narrow = columns_fit (entries_under key.Columns t) ns (narrow 0 t refl)
scan_fits (t ∷ ts) (suc n) ns narrow = scan_fits ts n ns (λ i u at. narrow (suc i) u at)

-- what stands at a name's place is what has the name
at_place : (t : List ℕ) (ds : List Data) → slice_get ds (place_named t ds) ≡ find (has_name t) ds
at_place t [] = refl
at_place t (d ∷ ds) = by_test (has_name t d) (at_place t ds)
  where
    by_test : (b : Bool) → slice_get ds (place_named t ds) ≡ find (has_name t) ds
        → slice_get (d ∷ ds) (if b then 0 else place_named t ds + 1) ≡ cond b (Some d) (find (has_name t) ds)
    by_test true h = refl
    by_test false h = subst (λ (n : ℕ). slice_get (d ∷ ds) n ≡ find (has_name t) ds) (sym (add-one (place_named t ds))) h

place_below : (t : List ℕ) (ds : List Data) → list_any (has_name t) ds ≡ true → place_named t ds < length ds
place_below t [] h = cc
place_below t (d ∷ ds) h = by_test (has_name t d) (list_any (has_name t) ds) (place_named t ds) (length ds) (place_below t ds) h
  where
    by_test : (b rest : Bool) (n m : ℕ) → (rest ≡ true → n < m) → b || rest ≡ true → (if b then 0 else n + 1) < suc m
    by_test true rest n m below h = omega arith
    by_test false rest n m below h = let less : n < m = below h in omega (arith, less)

columns_within : (cs ns : List Data) → length cs ≤ 256 → ((j : ℕ) (n : Data) → slice_get ns j ≡ Some n → list_any (has_name (text_of n)) cs ≡ true)
    → All (λ column. column < length (columns_of cs)) (places_of cs ns)
columns_within cs [] few has = All-nil (λ column. column < length (columns_of cs))
columns_within cs (n ∷ ns) few has =
    let place = place_named (text_of n) cs in
    let below : place < length cs = place_below (text_of n) cs (has 0 n refl) in
    let same : small place ≡ place = small_same place (omega (arith, below, few)) in
    let within : place < length (columns_of cs) = omega (arith, length-map cs column_of, below) in
    All-cons (λ column. column < length (columns_of cs)) (column_place cs n) (places_of cs ns) (subst (λ (p : ℕ). p < length (columns_of cs)) (sym same) within)
    (columns_within cs ns few (λ j m at. has (suc j) m at))

-- a table is declared, with the columns
pub record IsDeclared (docs : List TableDoc) (table : ℕ) (columns : List ℕ) : Type 0 where
  pub doc : TableDoc
  pub is_doc : slice_get docs table ≡ Some doc
  pub within : All (λ column. column < length doc.columns) columns

-- a scan whose table is declared
pub scan_found : (document d t : Data) → IsNarrow document → table_named (text_under key.Table d) document ≡ Some t
    → ((j : ℕ) (n : Data) → slice_get (entries_under key.Columns d) j ≡ Some n → scan_has (text_of n) d document ≡ true)
    → IsDeclared (map table_of (entries_under key.Tables document)) (small (names.table_of document d)) (places_of (scanned_columns document d) (entries_under key.Columns d))
scan_found document d t narrow found has =
    let ts = entries_under key.Tables document in
    let ns = entries_under key.Columns d in
    let place = place_named (text_under key.Table d) ts in
    let at : slice_get ts place ≡ Some t = at_place (text_under key.Table d) ts ∙ found in
    let low = place_within (text_under key.Table d) ts in
    let few = narrow.tables in
    let same : small place ≡ place = small_same place (omega (arith, low, few)) in
    let one = slice_get-map table_of ts place ∙ ap (option_map table_of) at in
    let within = columns_within (entries_under key.Columns t) ns (narrow.columns place t at)
    (λ j n is. subst (λ (o : Option Data). has_column (text_of n) o ≡ true) found (has j n is)) in
    record {
      doc = table_of t;
      is_doc = subst (λ (n : ℕ). slice_get (map table_of ts) n ≡ Some (table_of t)) (sym same) one;
      within = subst (λ (o : Option Data). All (λ column. column < length (columns_of (entries_under key.Columns t))) (places_of (columns_in o) ns)) (sym at) within;
    }
