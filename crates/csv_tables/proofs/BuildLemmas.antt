-- Rows that are put into columns, cell by cell and record by record.
use Rattle.std.proofs.Common.{◌≡◌, ◌≢◌, ◌<◌, ◌≤◌, ◌+◌, ◌++◌, ◌∷◌, ◌∙◌, ℕ, zero, suc, Bool, true, false, List, [], length, get_or, Result, Ok, Err, None, refl, sym, ap, arith, length-append}
use Rattle.std.specs.Prelude.{IsTrue, ◌↔◌, if◌then◌else◌, ◌==◌}
use Rattle.std.proofs.lemmas.Bool.{eqb-false, eqb-true}
use Rattle.std.proofs.lemmas.List.{length-map}
use Rattle.csv_tables.specs.Fields.{value_of_field}
use Rattle.csv_tables.specs.Places.{Place, first_and_rest, in_place}
use Rattle.csv_tables.specs.Records.{GivesRecord}
use Rattle.sql_values.specs.Columns.{kinds}
use Rattle.csv_tables.specs.Tables.{Adds, cells_from, differs_at, records_of, row_of_record}
use Rattle.csv_tables.proofs.FitLemmas.{field_fits, list_same, parts, read_in_place}
use Rattle.csv_tables.proofs.RecordsLemmas.{records_some}
use Rattle.csv_tables.proofs.RowLemmas.{after, goes_on}
use Rattle.sql_values.specs.Blocks.{fits}
use Rattle.sql_values.specs.ColumnRows.{TypedRows, fits_at}
use Rattle.sql_values.specs.declared.types.Column.{Column}
use Rattle.sql_values.specs.declared.types.SqlType.{SqlType}
use Rattle.sql_values.specs.declared.value.Value.{Value}

fits_there : (columns : List Column) (i : ℕ) (c : Column) (v : Value) → i < length columns → fits (get_or columns i c).kind v ≡ true → fits_at (kinds columns) i v ≡ true
fits_there [] i c v lt h = absurd (omega (arith, lt))
fits_there (column ∷ columns) zero c v lt h = h
fits_there (column ∷ columns) (suc i) c v lt h = fits_there columns i c v (omega (arith, lt)) h

-- a cell that was read from a field fits the column at its place
pub cell_fits : (columns : List Column) (types : List SqlType) (begun : List Value) (row at i : ℕ) (c : Column) (field : List ℕ) (v : Value) → i < length columns
    → in_place row at (value_of_field (get_or columns i c).kind field) ≡ Ok v → types ≡ kinds columns → length begun ≡ i → fits_at types (length begun) v ≡ true
cell_fits columns types begun row at i c field v lt read e n =
    let kind = (get_or columns i c).kind in
    rw (e, n) (fits_there columns i c v lt (field_fits kind field v (read_in_place row at (value_of_field kind field) v read)))

-- one more cell was put into the row that is begun
pub one_put : (types : List SqlType) (first a b : TypedRows) (i : ℕ) (v : Value) → a.types ≡ types → length a.begun ≡ i → a ≡ record first { begun = a.begun }
    → b ≡ record a { begun = a.begun ++ v ∷ [] } → (b.types ≡ types) × (length b.begun ≡ i + 1) × (b ≡ record first { begun = b.begun })
one_put types first a b i v t n same e =
    let typed : a.types ≡ first.types = ap (λ (r : TypedRows). r.types) same in
    let rows : a.rows ≡ first.rows = ap (λ (r : TypedRows). r.rows) same in
    let size = length-append a.begun (v ∷ []) in
    let count : length (a.begun ++ v ∷ []) ≡ i + 1 = omega (arith, n, size) in (
      ap (λ (r : TypedRows). r.types) e ∙ t,
      ap (λ (r : TypedRows). length r.begun) e ∙ count,
      rw e (rw (typed, rows) refl),
    )

length_of : (n : ℕ) (xs ys : List Value) (x : Value) → xs ≡ x ∷ ys → length ys ≡ n → length xs ≡ suc n
length_of n xs ys x e h = ap length e ∙ ap suc h

-- a record that is as wide as the columns has a cell for each
pub cells_count : (row at : ℕ) (columns : List Column) (fields : List (List ℕ)) (vs : List Value) → length fields ≡ length columns → cells_from row at columns fields ≡ Ok vs → length vs ≡ length columns
cells_count row at [] fields vs l e = let none : vs ≡ [] = list_same (Ok vs) vs [] refl (sym e) in ap length none
cells_count row at (column ∷ columns) [] vs l e = absurd (omega (arith, l))
cells_count row at (column ∷ columns) (field ∷ fields) vs l e =
    let p = parts (in_place row at (value_of_field column.kind field)) (cells_from row (at + 1) columns fields) vs e in
    length_of (length columns) vs p.others p.first p.all_is (cells_count row (at + 1) columns fields p.others (omega (arith, l)) p.later_is)

pub row_is : (columns : List Column) (limit row : ℕ) (fields : List (List ℕ)) → row ≢ limit + 1 → length fields ≡ length columns → row_of_record columns limit row fields ≡ cells_from row 0 columns fields
row_is columns limit row fields within wide = by_tests (row == limit + 1) (length fields == length columns) _ _ refl refl
  where
    by_tests : (past same : Bool) (p q : Place) → (row == limit + 1) ≡ past → (length fields == length columns) ≡ same
        → (if past then Err p else if same then cells_from row 0 columns fields else Err q) ≡ cells_from row 0 columns fields
    by_tests true same p q b s = absurd (within (eqb-true row (limit + 1) b))
    by_tests false true p q b s = refl
    by_tests false false p q b s = absurd (eqb-false (length fields) (length columns) s wide)

was_ended : (ended : Bool) (n m k : ℕ) → n ≡ k → m ≡ k → (IsTrue ended ↔ (n ≤ m)) → ended ≡ true
was_ended true n m k e f full = refl
was_ended false n m k e f full = full.1 (omega (arith, e, f))

put_whole : (before begun after : TypedRows) → before.begun ≡ [] → begun ≡ record before { begun = begun.begun } → after ≡ record begun { rows = begun.rows ++ begun.begun ∷ []; begun = [] }
    → after ≡ record before { rows = before.rows ++ begun.begun ∷ [] }
put_whole before begun after none same is =
    let types : begun.types ≡ before.types = ap (λ (t : TypedRows). t.types) same in
    let rows : begun.rows ≡ before.rows = ap (λ (t : TypedRows). t.rows) same in
    is ∙ rw (types, rows, none) refl

-- a record was read and its row ended
pub row_added : (columns : List Column) (limit row : ℕ) (fields : List (List ℕ)) (before begun after : TypedRows) (ended : Bool) → row ≢ limit + 1 → length fields ≡ length columns
    → before.types ≡ kinds columns → before.begun ≡ [] → begun ≡ record before { begun = begun.begun } → cells_from row 0 columns fields ≡ Ok begun.begun
    → (IsTrue ended ↔ (length begun.types ≤ length begun.begun)) → after ≡ (if ended then record begun { rows = begun.rows ++ begun.begun ∷ []; begun = [] } else begun)
    → Adds (row_of_record columns limit row fields) before after
row_added columns limit row fields before begun after ended within wide types none same cells full is =
    let typed : begun.types ≡ kinds columns = ap (λ (t : TypedRows). t.types) same ∙ types in
    let count : length begun.types ≡ length columns = ap length typed ∙ length-map columns (λ (column : Column). column.kind) in
    let ended_is : ended ≡ true = was_ended ended (length begun.types) (length begun.begun) (length columns) count (cells_count row 0 columns fields begun.begun wide cells) full in
    rw (row_is columns limit row fields within wide, cells) (put_whole before begun after none same (rw ended_is at is))

pub adds_types : (here : Result (List Value) Place) (a b : TypedRows) → Adds here a b → b.types ≡ a.types
adds_types (Ok row) a b h = ap (λ (t : TypedRows). t.types) h
adds_types (Err e) a b h = absurd h

pub adds_begun : (here : Result (List Value) Place) (a b : TypedRows) → Adds here a b → b.begun ≡ a.begun
adds_begun (Ok row) a b h = ap (λ (t : TypedRows). t.begun) h
adds_begun (Err e) a b h = absurd h

pub adds_goes : (whole now later : Result (List (List Value)) Place) (here : Result (List Value) Place) (a b : TypedRows) → whole ≡ after a.rows now → now ≡ first_and_rest here later → Adds here a b
    → whole ≡ after b.rows later
adds_goes whole now later (Ok row) a b w n h = rw (ap (λ (t : TypedRows). t.rows) h) (goes_on whole a.rows now later (Ok row) row w n refl)
adds_goes whole now later (Err e) a b w n h = absurd h

same_names : (n : ℕ) (fields : List (List ℕ)) (columns : List Column) → differs_at n fields columns ≡ None → 0 < length fields → 0 < length columns
same_names n [] columns e h = absurd (omega (arith, h))
same_names n (field ∷ fields) [] e h = cc e
same_names n (field ∷ fields) (column ∷ columns) e h = omega arith

-- a header that is the columns' names has a name
pub names_some : (columns : List Column) (text : List ℕ) (fields : List (List ℕ)) (more : List (List (List ℕ))) → GivesRecord true fields (records_of text) more → differs_at 0 fields columns ≡ None
    → 0 < length columns
names_some columns text fields more e same = same_names 0 fields columns same (records_some _ _ _ _ fields more e)
