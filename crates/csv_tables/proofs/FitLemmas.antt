-- The rows of a table pass a test over the types of its columns that each cell which is read passes:
-- they fit the types, and have them.
use Rattle.std.proofs.Common.{◌≡◌, ℕ, ◌+◌, ◌≤◌, Bool, true, false, List, [], ◌∷◌, length, refl, ap, sym, arith, subst, Option, Some, None}
use Rattle.std.specs.Prelude.{All, IsTrue, Result, Ok, Err, ◌==◌, not, if◌then◌else◌, option_map, ℤ}
use Rattle.std.proofs.lemmas.Bool.{eqb-false, eqb-true}
use Rattle.std.proofs.lemmas.List.Elements.{All-cons, All-head, All-nil, All-tail}
use Rattle.std.proofs.lemmas.List.Sums.{list_all-from_AllPass}
use Rattle.std.specs.Str.{is_utf8}
use Rattle.scalar_texts.specs.Decimals.{decimal_of}
use Rattle.sql_values.specs.declared.types.Column.{Column}
use Rattle.sql_values.specs.declared.types.SqlType.{SqlType}
use Rattle.sql_values.specs.declared.types.SqlType.TheVariants.{Boolean, Bigint, Decimal, Varchar, Date}
use Rattle.sql_values.specs.declared.value.Value.{Value}
use Rattle.sql_values.specs.declared.value.Value.TheVariants as value
use Rattle.sql_values.specs.Blocks.{fits}
use Rattle.sql_values.specs.ColumnRows.{fits_row}
use Rattle.sql_values.specs.Texts.{value_of_text}
use Rattle.sql_values.specs.Types.{IsType, has_type, row_has_types, rows_have_types}
use Rattle.sql_values.proofs.BlockLemmas.{typed_fits}
use Rattle.text_type_laws.proofs.TextLemmas.{parsed_has_type}
use Rattle.csv_tables.specs.Fields.{is_null, text_in, value_of_field, value_or_malformed}
use Rattle.csv_tables.specs.Places.{Place, first_and_rest, in_place}
use Rattle.sql_values.specs.Columns.{kinds}
use Rattle.csv_tables.specs.Tables.{cells_from, differs_at, row_of_record, rows_from, rows_under, table_of}

decimal_fits : (p s : ℕ) (o : Option ℤ) (v : Value) → option_map value.Decimal o ≡ Some v → fits (Decimal p s) v ≡ true
decimal_fits p s None v e = cc
decimal_fits p s (Some x) v e = let same : value.Decimal x ≡ v = cc e in subst (λ w. fits (Decimal p s) w ≡ true) same refl

-- whatever the digits of a decimal's type are, its texts write decimals
text_fits : (kind : SqlType) (text : List ℕ) (v : Value) → value_of_text kind text ≡ Some v → fits kind v ≡ true
text_fits (Decimal p s) text v e = decimal_fits p s (decimal_of p s text) v e
text_fits Boolean text v e = typed_fits Boolean v (parsed_has_type Boolean tt text v e)
text_fits Bigint text v e = typed_fits Bigint v (parsed_has_type Bigint tt text v e)
text_fits Varchar text v e = typed_fits Varchar v (parsed_has_type Varchar tt text v e)
text_fits Date text v e = typed_fits Date v (parsed_has_type Date tt text v e)

null_fits : (kind : SqlType) → fits kind value.Null ≡ true
null_fits Boolean = refl
null_fits Bigint = refl
null_fits (Decimal p s) = refl
null_fits Varchar = refl
null_fits Date = refl

ok_same : (r : Result Value ℕ) (v w : Value) → r ≡ Ok v → r ≡ Ok w → v ≡ w
ok_same r v w d e = cc

-- a test that NULL and each value of a text of the type pass is passed by what a field is read as
field_passes : (test : Value → Bool) (kind : SqlType) (field : List ℕ) (v : Value) → test value.Null ≡ true
    → ((text : List ℕ) (w : Value) → value_of_text kind text ≡ Some w → test w ≡ true) → value_of_field kind field ≡ Ok v → test v ≡ true
field_passes test kind field v null reads e = by_tests (not (is_utf8 field)) (is_null kind field) e
  where
    by_value : (o : Option Value) → ((w : Value) → o ≡ Some w → test w ≡ true) → value_or_malformed o ≡ Ok v → test v ≡ true
    by_value None each e = cc
    by_value (Some w) each e = subst (λ x. test x ≡ true) (ok_same (Ok w) w v refl e) (each w refl)

    by_tests : (bad none : Bool) → (if bad then Err 3 else if none then Ok value.Null else value_or_malformed (value_of_text kind (text_in kind field))) ≡ Ok v → test v ≡ true
    by_tests true none e = cc
    by_tests false true e = subst (λ w. test w ≡ true) (ok_same (Ok value.Null) value.Null v refl e) null
    by_tests false false e = by_value (value_of_text kind (text_in kind field)) (reads (text_in kind field)) e

-- what a field is read as fits the type
pub field_fits : (kind : SqlType) (field : List ℕ) (v : Value) → value_of_field kind field ≡ Ok v → fits kind v ≡ true
field_fits kind field v e = field_passes (fits kind) kind field v (null_fits kind) (text_fits kind) e

-- the first and the others of what was read
pub record Parts {A E : Type 0} (here : Result A E) (later : Result (List A) E) (all : List A) : Type 0 where
  pub first : A
  pub others : List A
  pub here_is : here ≡ Ok first
  pub later_is : later ≡ Ok others
  pub all_is : all ≡ first ∷ others

pub list_same : {A : Type 0} (r : Result (List A) Place) (xs ys : List A) → r ≡ Ok xs → r ≡ Ok ys → xs ≡ ys
list_same r xs ys d e = cc

pub parts : {A : Type 0} (here : Result A Place) (later : Result (List A) Place) (all : List A) → first_and_rest here later ≡ Ok all → Parts here later all
parts (Err p) later all e = cc
parts (Ok x) (Err p) all e = cc
parts (Ok x) (Ok xs) all e = record { first = x; others = xs; here_is = refl; later_is = refl; all_is = list_same (Ok all) all (x ∷ xs) refl (sym e) }

pub read_in_place : (row column : ℕ) (r : Result Value ℕ) (v : Value) → in_place row column r ≡ Ok v → r ≡ Ok v
read_in_place row column (Ok w) v e = let same : w ≡ v = placed_same (Ok w) w v refl e in ap (λ (x : Value). Ok x) same
  where
    placed_same : (r : Result Value Place) (v w : Value) → r ≡ Ok v → r ≡ Ok w → v ≡ w
    placed_same r v w d e = cc
read_in_place row column (Err why) v e = cc

-- a test of rows over types of a kind, which is passed by no cells, and by one more that is read from a field
record RowTest (Q : SqlType → Type 0) : Type 0 where
  test : List SqlType → List Value → Bool
  none : test [] [] ≡ true
  more : (kind : SqlType) (field : List ℕ) (v : Value) (kinds : List SqlType) (row : List Value) → Q kind → value_of_field kind field ≡ Ok v
      → test kinds row ≡ true → test (kind ∷ kinds) (v ∷ row) ≡ true

abbrev AllAre : (SqlType → Type 0) → List Column → Type 0
AllAre Q columns = All (λ column. Q column.kind) columns

cells_pass : (Q : SqlType → Type 0) (t : RowTest Q) (row at : ℕ) (columns : List Column) (fields : List (List ℕ)) (vs : List Value) → AllAre Q columns
    → length fields ≡ length columns → cells_from row at columns fields ≡ Ok vs → t.test (kinds columns) vs ≡ true
cells_pass Q t row at [] fields vs are l e = let none : vs ≡ [] = list_same (Ok vs) vs [] refl (sym e) in subst (λ xs. t.test [] xs ≡ true) (sym none) t.none
cells_pass Q t row at (column ∷ columns) [] vs are l e = absurd (omega (arith, l))
cells_pass Q t row at (column ∷ columns) (field ∷ fields) vs are l e =
    let p = parts (in_place row at (value_of_field column.kind field)) (cells_from row (at + 1) columns fields) vs e in
    let rest = cells_pass Q t row (at + 1) columns fields p.others (All-tail (λ c. Q c.kind) column columns are) (omega (arith, l)) p.later_is in
    let read = read_in_place row at (value_of_field column.kind field) p.first p.here_is in
    subst (λ xs. t.test (column.kind ∷ kinds columns) xs ≡ true) (sym p.all_is)
    (t.more column.kind field p.first (kinds columns) p.others (All-head (λ c. Q c.kind) column columns are) read rest)

-- a row that was read is not past the last, and is as wide as the columns
pub record RowRead (columns : List Column) (limit row : ℕ) (fields : List (List ℕ)) (vs : List Value) : Type 0 where
  pub within : (row == limit + 1) ≡ false
  pub wide : (length fields == length columns) ≡ true
  pub cells : cells_from row 0 columns fields ≡ Ok vs

pub row_read : (columns : List Column) (limit row : ℕ) (fields : List (List ℕ)) (vs : List Value) → row_of_record columns limit row fields ≡ Ok vs → RowRead columns limit row fields vs
row_read columns limit row fields vs e = by_tests (row == limit + 1) (length fields == length columns) _ _ refl refl e
  where
    by_tests : (past same : Bool) (p q : Place) → (row == limit + 1) ≡ past → (length fields == length columns) ≡ same
        → (if past then Err p else if same then cells_from row 0 columns fields else Err q) ≡ Ok vs → RowRead columns limit row fields vs
    by_tests true same p q b s e = absurd cc
    by_tests false true p q b s e = record { within = b; wide = s; cells = e }
    by_tests false false p q b s e = absurd cc

abbrev Passes : {Q : SqlType → Type 0} → RowTest Q → List Column → List Value → Type 0
Passes t columns row = IsTrue (t.test (kinds columns) row)

rows_pass : (Q : SqlType → Type 0) (t : RowTest Q) (columns : List Column) (limit row : ℕ) (records : List (List (List ℕ))) (rows : List (List Value)) → AllAre Q columns
    → rows_from columns limit row records ≡ Ok rows → All (Passes t columns) rows
rows_pass Q t columns limit row [] rows are e = let none : rows ≡ [] = list_same (Ok rows) rows [] refl (sym e) in subst (All (Passes t columns)) (sym none) (All-nil (Passes t columns))
rows_pass Q t columns limit row (fields ∷ more) rows are e =
    let p = parts (row_of_record columns limit row fields) (rows_from columns limit (row + 1) more) rows e in
    let read = row_read columns limit row fields p.first p.here_is in
    let here = cells_pass Q t row 0 columns fields p.first are (eqb-true (length fields) (length columns) read.wide) read.cells in
    subst (All (Passes t columns)) (sym p.all_is)
    (All-cons (Passes t columns) p.first p.others here (rows_pass Q t columns limit (row + 1) more p.others are p.later_is))

table_passes : (Q : SqlType → Type 0) (t : RowTest Q) (columns : List Column) (limit : ℕ) (records : List (List (List ℕ))) (rows : List (List Value)) → AllAre Q columns
    → table_of columns limit records ≡ Ok rows → All (Passes t columns) rows
table_passes Q t columns limit [] rows are e = absurd cc
table_passes Q t columns limit (header ∷ more) rows are e = under_header (differs_at 0 header columns) e
  where
    under_header : (difference : Option ℕ) → rows_under difference columns limit more ≡ Ok rows → All (Passes t columns) rows
    under_header None e = rows_pass Q t columns limit 1 more rows are e
    under_header (Some column) e = absurd cc

abbrev fit_test : RowTest (λ kind. Unit {0})
fit_test = record {
  test = fits_row;
  none = refl;
  more = λ kind field v kinds row is read rest. rw (field_fits kind field v read) rest;
}

abbrev type_test : RowTest IsType
type_test = record {
  test = row_has_types;
  none = refl;
  more = λ kind field v kinds row is read rest. rw (field_passes (has_type kind) kind field v refl (parsed_has_type kind is) read) rest;
}

pub table_fits : (columns : List Column) (limit : ℕ) (records : List (List (List ℕ))) (rows : List (List Value)) → table_of columns limit records ≡ Ok rows
    → All (λ row. IsTrue (fits_row (kinds columns) row)) rows
table_fits columns limit records rows e = table_passes (λ kind. Unit {0}) fit_test columns limit records rows (λ k column within. tt) e

pub table_has_types : (columns : List Column) (limit : ℕ) (records : List (List (List ℕ))) (rows : List (List Value)) → All (λ column. IsType column.kind) columns
    → table_of columns limit records ≡ Ok rows → IsTrue (rows_have_types (kinds columns) rows)
table_has_types columns limit records rows are e = list_all-from_AllPass (row_has_types (kinds columns)) rows (table_passes IsType type_test columns limit records rows are e)

pub rows_few : (columns : List Column) (limit row : ℕ) (records : List (List (List ℕ))) (rows : List (List Value)) → row ≤ limit + 1
    → rows_from columns limit row records ≡ Ok rows → row + length rows ≤ limit + 1
rows_few columns limit row [] rows h e = let none : rows ≡ [] = list_same (Ok rows) rows [] refl (sym e) in omega (arith, h, ap length none)
rows_few columns limit row (fields ∷ more) rows h e =
    let p = parts (row_of_record columns limit row fields) (rows_from columns limit (row + 1) more) rows e in
    let read = row_read columns limit row fields p.first p.here_is in
    let before : row + 1 ≤ limit + 1 = omega (arith, h, eqb-false row (limit + 1) read.within) in
    let later = rows_few columns limit (row + 1) more p.others before p.later_is in
    omega (arith, later, ap length p.all_is)

under_few : (columns : List Column) (limit : ℕ) (difference : Option ℕ) (more : List (List (List ℕ))) (rows : List (List Value)) → rows_under difference columns limit more ≡ Ok rows → length rows ≤ limit
under_few columns limit None more rows e = omega (arith, rows_few columns limit 1 more rows (omega arith) e)
under_few columns limit (Some column) more rows e = cc

pub table_few : (columns : List Column) (limit : ℕ) (records : List (List (List ℕ))) (rows : List (List Value)) → table_of columns limit records ≡ Ok rows → length rows ≤ limit
table_few columns limit [] rows e = cc
table_few columns limit (header ∷ more) rows e = under_few columns limit (differs_at 0 header columns) more rows e
