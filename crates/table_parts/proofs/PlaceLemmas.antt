-- What is read of records behind some rows: the same as by themselves, each place so many rows later.
use Rattle.std.proofs.Common.{◌≡◌, ◌≤◌, ◌+◌, ◌∷◌, ◌∙◌, ℕ, Bool, true, false, List, [], length, Result, Ok, Err, refl, sym, ap, arith}
use mathlib.Core.Logic.{dite}
use native.Mathlib.Decide.{dec_le}
use Rattle.std.specs.Prelude.{nat_le, if◌then◌else◌, ◌==◌}
use Rattle.std.proofs.lemmas.Bool.{eqb-false, le-leb, lt-leb, ne_eqb}
use Rattle.csv_tables.specs.Fields.{value_of_field}
use Rattle.csv_tables.specs.Places.{Place, first_and_rest, in_place, place, too_many_rows, wrong_width}
use Rattle.csv_tables.specs.Tables.{cells_from, held, row_of_record, rows_from}
use Rattle.sql_values.specs.declared.types.Column.{Column}
use Rattle.sql_values.specs.declared.value.Value.{Value}

abbrev pub Record : Type 0
Record = List (List ℕ)

abbrev pub Row : Type 0
Row = List Value

-- a refusal so many rows later
abbrev later : {A : Type 0} → ℕ → Result A Place → Result A Place
later n (Ok x) = Ok x
later n (Err p) = Err (place (n + p.row) p.column p.why)

later_place : (n row at : ℕ) (r : Result Value ℕ) → in_place (n + row) at r ≡ later n (in_place row at r)
later_place n row at (Ok v) = refl
later_place n row at (Err why) = refl

later_first : {A : Type 0} (n : ℕ) (here : Result A Place) (others : Result (List A) Place) → first_and_rest (later n here) (later n others) ≡ later n (first_and_rest here others)
later_first n (Err p) others = refl
later_first n (Ok x) (Err p) = refl
later_first n (Ok x) (Ok xs) = refl

later_cells : (n row at : ℕ) (columns : List Column) (fields : Record) → cells_from (n + row) at columns fields ≡ later n (cells_from row at columns fields)
later_cells n row at [] fields = refl
later_cells n row at (column ∷ columns) [] = refl
later_cells n row at (column ∷ columns) (field ∷ fields) =
    rw (later_place n row at (value_of_field column.kind field), later_cells n row (at + 1) columns fields)
    (later_first n (in_place row at (value_of_field column.kind field)) (cells_from row (at + 1) columns fields))

later_wide : (n row : ℕ) (columns : List Column) (fields : Record) (same : Bool)
    → (if same then cells_from (n + row) 0 columns fields else Err (place (n + row) (held (length fields)) wrong_width))
    ≡ later n (if same then cells_from row 0 columns fields else Err (place row (held (length fields)) wrong_width))
later_wide n row columns fields true = later_cells n row 0 columns fields
later_wide n row columns fields false = refl

later_row : (columns : List Column) (limit n row : ℕ) (fields : Record) → n + row ≤ limit → row_of_record columns limit (n + row) fields ≡ later n (row_of_record columns limit row fields)
later_row columns limit n row fields h =
    let here : (n + row == limit + 1) ≡ false = ne_eqb (n + row) (limit + 1) (λ e. absurd (omega (arith, h, e))) in
    let there : (row == limit + 1) ≡ false = ne_eqb row (limit + 1) (λ e. absurd (omega (arith, h, e))) in
    rw (here, there) (later_wide n row columns fields (length fields == length columns))

-- what was read, or a refusal in this row
abbrev IsIn : {A : Type 0} → ℕ → Result A Place → Type 0
IsIn row (Ok x) = Unit {0}
IsIn row (Err p) = p.row ≡ row

-- the same in this row or a later one
abbrev IsFrom : {A : Type 0} → ℕ → Result A Place → Type 0
IsFrom row (Ok x) = Unit {0}
IsFrom row (Err p) = row ≤ p.row

in_one : (row at : ℕ) (r : Result Value ℕ) → IsIn row (in_place row at r)
in_one row at (Ok v) = tt
in_one row at (Err why) = refl

in_first : {A : Type 0} (row : ℕ) (here : Result A Place) (others : Result (List A) Place) → IsIn row here → IsIn row others → IsIn row (first_and_rest here others)
in_first row (Err p) others h k = h
in_first row (Ok x) (Err p) h k = k
in_first row (Ok x) (Ok xs) h k = tt

in_cells : (row at : ℕ) (columns : List Column) (fields : Record) → IsIn row (cells_from row at columns fields)
in_cells row at [] fields = tt
in_cells row at (column ∷ columns) [] = tt
in_cells row at (column ∷ columns) (field ∷ fields) =
    in_first row (in_place row at (value_of_field column.kind field)) (cells_from row (at + 1) columns fields)
    (in_one row at (value_of_field column.kind field)) (in_cells row (at + 1) columns fields)

in_tests : (row : ℕ) (past same : Bool) (cells : Result Row Place) (p q : Place) → p.row ≡ row → q.row ≡ row → IsIn row cells → IsIn row (if past then Err p else if same then cells else Err q)
in_tests row true same cells p q e f h = e
in_tests row false true cells p q e f h = h
in_tests row false false cells p q e f h = f

in_row : (columns : List Column) (limit row : ℕ) (fields : Record) → IsIn row (row_of_record columns limit row fields)
in_row columns limit row fields =
    in_tests row (row == limit + 1) (length fields == length columns) (cells_from row 0 columns fields) (place row 0 too_many_rows) (place row (held (length fields)) wrong_width)
    refl refl (in_cells row 0 columns fields)

from_first : {A : Type 0} (row : ℕ) (here : Result A Place) (others : Result (List A) Place) → IsIn row here → IsFrom (row + 1) others → IsFrom row (first_and_rest here others)
from_first row (Err p) others h k = omega (arith, h)
from_first row (Ok x) (Err p) h k = omega (arith, k)
from_first row (Ok x) (Ok xs) h k = tt

from_rows : (columns : List Column) (limit row : ℕ) (records : List Record) → IsFrom row (rows_from columns limit row records)
from_rows columns limit row [] = tt
from_rows columns limit row (fields ∷ more) =
    from_first row (row_of_record columns limit row fields) (rows_from columns limit (row + 1) more) (in_row columns limit row fields) (from_rows columns limit (row + 1) more)

abbrev pub past : ℕ → Place
past limit = place (limit + 1) 0 too_many_rows

-- a place so many rows later: of rows past the limit, the first decides
abbrev pub place_behind : ℕ → ℕ → Place → Place
place_behind limit n p = if nat_le (n + p.row) limit then place (n + p.row) p.column p.why else past limit

-- what is read from a row on, if that is read so many rows later
abbrev pub moved : ℕ → ℕ → ℕ → Result (List Row) Place → Result (List Row) Place
moved limit n row (Ok rows) = if nat_le (n + row + length rows) (limit + 1) then Ok rows else Err (past limit)
moved limit n row (Err p) = Err (place_behind limit n p)

moved_past : (limit n row : ℕ) (here : Result Row Place) (others : Result (List Row) Place) → IsIn row here → IsFrom (row + 1) others → n + row ≡ limit + 1
    → moved limit n row (first_and_rest here others) ≡ Err (past limit)
moved_past limit n row (Err p) others h k e = rw (lt-leb (n + p.row) limit (omega (arith, h, e))) refl
moved_past limit n row (Ok x) (Err p) h k e = rw (lt-leb (n + p.row) limit (omega (arith, k, e))) refl
moved_past limit n row (Ok x) (Ok xs) h k e = rw (lt-leb (n + row + length (x ∷ xs)) (limit + 1) (omega (arith, e))) refl

first_if : (b : Bool) (x : Row) (xs : List Row) (p : Place) → first_and_rest (Ok x) (if b then Ok xs else Err p) ≡ (if b then Ok (x ∷ xs) else Err p)
first_if true x xs p = refl
first_if false x xs p = refl

moved_first : (limit n row : ℕ) (here : Result Row Place) (others : Result (List Row) Place) → IsIn row here → n + row ≤ limit
    → first_and_rest (later n here) (moved limit n (row + 1) others) ≡ moved limit n row (first_and_rest here others)
moved_first limit n row (Err p) others h l = rw (le-leb (n + p.row) limit (omega (arith, h, l))) refl
moved_first limit n row (Ok x) (Err p) h l = refl
moved_first limit n row (Ok x) (Ok xs) h l =
    let same : n + (row + 1) + length xs ≡ n + row + length (x ∷ xs) = omega arith in
    first_if (nat_le (n + (row + 1) + length xs) (limit + 1)) x xs (past limit)
    ∙ ap (λ (k : ℕ). if nat_le k (limit + 1) then Ok (x ∷ xs) else Err (past limit)) same

past_row : (columns : List Column) (limit row : ℕ) (fields : Record) (others : Result (List Row) Place) → row ≡ limit + 1 → first_and_rest (row_of_record columns limit row fields) others ≡ Err (past limit)
past_row columns limit row fields others e = by_test (row == limit + 1) (length fields == length columns) (cells_from row 0 columns fields) _ refl
  where
    by_test : (b same : Bool) (cells : Result Row Place) (q : Place) → (row == limit + 1) ≡ b
        → first_and_rest (if b then Err (place row 0 too_many_rows) else if same then cells else Err q) others ≡ Err (past limit)
    by_test true same cells q t = ap (λ (r : ℕ). Err (place r 0 too_many_rows)) e
    by_test false same cells q t = absurd (eqb-false row (limit + 1) t e)

-- the rows of records, read so many rows later
pub rows_later : (columns : List Column) (limit n row : ℕ) (records : List Record) → n + row ≤ limit + 1
    → rows_from columns limit (n + row) records ≡ moved limit n row (rows_from columns limit row records)
rows_later columns limit n row [] h = rw (le-leb (n + row + 0) (limit + 1) (omega (arith, h))) refl
rows_later columns limit n row (fields ∷ more) h =
    let here = row_of_record columns limit row fields in
    let others = rows_from columns limit (row + 1) more in
    let next : n + row + 1 ≡ n + (row + 1) = omega arith in
    dite (dec_le (n + row) limit)
    (λ within. rw (next, later_row columns limit n row fields within, rows_later columns limit n (row + 1) more (omega (arith, within)))
    (moved_first limit n row here others (in_row columns limit row fields) within))
    (λ beyond.
    let end : n + row ≡ limit + 1 = omega (arith, h, beyond) in
    past_row columns limit (n + row) fields (rows_from columns limit (n + row + 1) more) end
    ∙ sym (moved_past limit n row here others (in_row columns limit row fields) (from_rows columns limit (row + 1) more) end))
