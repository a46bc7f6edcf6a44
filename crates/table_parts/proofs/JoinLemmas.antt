-- What is read of a text of which two parts were read by themselves.
use Rattle.std.proofs.Common.{◌≡◌, ◌≢◌, ◌<◌, ◌≤◌, ◌+◌, ◌-◌, ◌^◌, ◌++◌, ◌∷◌, ◌∙◌, ◌⊎◌, inl, inr, ℕ, Bool, true, false, List, [], length, Option, Some, None, Result, Ok, Err, refl, sym, ap, arith}
use mathlib.Core.Logic.{dite}
use native.Mathlib.Decide.{dec_le}
use Rattle.std.specs.Prelude.{All, IfErr, IfOk, nat_le, if◌then◌else◌}
use Rattle.std.proofs.lemmas.Bool.{le-leb, leb-false, leb-true, lt-leb}
use Rattle.csv_tables.specs.declared.fault.TableFault.{TableFault}
use Rattle.csv_tables.specs.declared.fault.TableFault.TheVariants as fault
use Rattle.csv_tables.specs.Parts.{IsCut, quote}
use Rattle.csv_tables.specs.Places.{IsFaultOf, Place, first_and_rest, place, too_many_rows}
use Rattle.sql_values.specs.Columns.{kinds}
use Rattle.csv_tables.specs.Tables.{IsReadInto, IsTable, TableRefusedFor, differs_at, records_of, row_of_record, rows_from, rows_under, table_of}
use Rattle.csv_tables.proofs.FitLemmas.{list_same, parts, rows_few}
use Rattle.csv_tables.proofs.PartLemmas.{records_cut}
use Rattle.csv_tables.proofs.RowLemmas.{after, after_none}
use Rattle.sql_values.specs.ColumnRows.{TypedRows}
use Rattle.sql_values.specs.declared.types.Column.{Column}
use Rattle.sql_values.specs.declared.types.SqlType.{SqlType}
use Rattle.table_parts.specs.Reading.{IsPartRead, IsUnderHeader, fault_behind}
use Rattle.table_parts.proofs.CutLemmas.{back_plain}
use Rattle.table_parts.proofs.PlaceLemmas.{Record, Row, moved, past, place_behind, rows_later}

first_after : {A : Type 0} (x : A) (done : List A) (r : Result (List A) Place) → first_and_rest (Ok x) (after done r) ≡ after (x ∷ done) r
first_after x done (Ok rest) = refl
first_after x done (Err e) = refl

row_appended : (here : Result Row Place) (others : Result (List Row) Place) (x : Row) (done all : List Row) (r : Result (List Row) Place) → here ≡ Ok x → others ≡ after done r → all ≡ x ∷ done
    → first_and_rest here others ≡ after all r
row_appended here others x done all r e f g = rw (e, f, g) (first_after x done r)

-- behind rows that were read stands what is read of the records behind theirs
rows_appended : (columns : List Column) (limit row next : ℕ) (records more : List Record) (rows : List Row) → rows_from columns limit row records ≡ Ok rows → next ≡ row + length rows
    → rows_from columns limit row (records ++ more) ≡ after rows (rows_from columns limit next more)
rows_appended columns limit row next [] more rows e n =
    let none : rows ≡ [] = list_same (Ok rows) rows [] refl (sym e) in
    let same : next ≡ row = n ∙ rw none (omega arith) in
    rw (none, same) (after_none (rows_from columns limit row more))
rows_appended columns limit row next (fields ∷ records) more rows e n =
    let p = parts (row_of_record columns limit row fields) (rows_from columns limit (row + 1) records) rows e in
    let size = ap length p.all_is in
    row_appended _ _ p.first p.others rows (rows_from columns limit next more) p.here_is
    (rows_appended columns limit (row + 1) next records more p.others p.later_is (omega (arith, size, n))) p.all_is

first_refused : {A : Type 0} (here : Result A Place) (others all : Result (List A) Place) (p : Place) → first_and_rest here others ≡ Err p → (others ≡ Err p → all ≡ Err p)
    → first_and_rest here all ≡ Err p
first_refused (Err q) others all p e k = cc e
first_refused (Ok x) (Err q) all p e k = rw (k (cc e)) refl
first_refused (Ok x) (Ok xs) all p e k = cc e

-- what is refused is so whatever stands behind
rows_refused : (columns : List Column) (limit row : ℕ) (records more : List Record) (p : Place) → rows_from columns limit row records ≡ Err p → rows_from columns limit row (records ++ more) ≡ Err p
rows_refused columns limit row [] more p e = cc e
rows_refused columns limit row (fields ∷ records) more p e =
    first_refused (row_of_record columns limit row fields) (rows_from columns limit (row + 1) records) (rows_from columns limit (row + 1) (records ++ more)) p e
    (λ k. rows_refused columns limit (row + 1) records more p k)

-- rows, and what is read of the records behind them, counted from 1
abbrev joined : ℕ → List Row → Result (List Row) Place → Result (List Row) Place
joined limit rows (Ok more) = if nat_le (length rows + length more) limit then Ok (rows ++ more) else Err (past limit)
joined limit rows (Err p) = Err (place_behind limit (length rows) p)

same_test : (a b c d : ℕ) → (a ≤ b → c ≤ d) → (c ≤ d → a ≤ b) → nat_le a b ≡ nat_le c d
same_test a b c d f g = by_test (nat_le a b) refl
  where
    by_test : (t : Bool) → nat_le a b ≡ t → nat_le a b ≡ nat_le c d
    by_test true e = e ∙ sym (le-leb c d (f (leb-true a b e)))
    by_test false e = e ∙ sym (lt-leb c d (beyond (leb-false a b e)))
      where
        beyond : b < a → d < c
        beyond l = dite (dec_le c d) (λ within. let h = g within in absurd (omega (arith, h, l))) (λ past. omega (arith, past))

after_if : (b : Bool) (rows more : List Row) (p : Place) → after rows (if b then Ok more else Err p) ≡ (if b then Ok (rows ++ more) else Err p)
after_if true rows more p = refl
after_if false rows more p = refl

after_moved : (limit : ℕ) (rows : List Row) (r : Result (List Row) Place) → after rows (moved limit (length rows) 1 r) ≡ joined limit rows r
after_moved limit rows (Err p) = refl
after_moved limit rows (Ok more) =
    after_if (nat_le (length rows + 1 + length more) (limit + 1)) rows more (past limit)
    ∙ ap (λ (b : Bool). if b then Ok (rows ++ more) else Err (past limit))
    (same_test (length rows + 1 + length more) (limit + 1) (length rows + length more) limit (λ h. omega (arith, h)) (λ h. omega (arith, h)))

whole : (columns : List Column) (limit : ℕ) (before rest : List ℕ) (rows : List Row) → IsCut before rest → rows_from columns limit 1 (records_of before) ≡ Ok rows
    → rows_from columns limit 1 (records_of (before ++ rest)) ≡ joined limit rows (rows_from columns limit 1 (records_of rest))
whole columns limit before rest rows cut e =
    let few = rows_few columns limit 1 (records_of before) rows (omega arith) e in
    rw (
      records_cut before rest cut,
      rows_appended columns limit 1 (length rows + 1) (records_of before) (records_of rest) rows e (omega arith),
      rows_later columns limit (length rows) 1 (records_of rest) (omega (arith, few)),
    )
    (after_moved limit rows (rows_from columns limit 1 (records_of rest)))

-- the first part was refused
pub front_refused : (columns : List Column) (limit : ℕ) (before rest : List ℕ) (f : TableFault) → IsCut before rest → IsFaultOf (rows_from columns limit 1 (records_of before)) f
    → IsFaultOf (rows_from columns limit 1 (records_of (before ++ rest))) f
front_refused columns limit before rest (fault.Refused row column why) cut h =
    rw (records_cut before rest cut) (rows_refused columns limit 1 (records_of before) (records_of rest) (place row column why) h)
front_refused columns limit before rest fault.Memory cut h = tt

fault_if : (read : Result (List Row) Place) (b : Bool) (row column why limit : ℕ) → read ≡ Err (if b then place row column why else past limit)
    → IsFaultOf read (if b then fault.Refused row column why else fault.Refused (limit + 1) 0 too_many_rows)
fault_if read true row column why limit e = e
fault_if read false row column why limit e = e

-- the second part was refused
pub back_refused : (columns : List Column) (limit : ℕ) (before rest : List ℕ) (types : List SqlType) (front : TypedRows) (f : TableFault) → IsCut before rest
    → IsReadInto (rows_from columns limit 1 (records_of before)) types front → IsFaultOf (rows_from columns limit 1 (records_of rest)) f
    → IsFaultOf (rows_from columns limit 1 (records_of (before ++ rest))) (fault_behind limit (length front.rows) f)
back_refused columns limit before rest types front (fault.Refused row column why) cut h k =
    let n = length front.rows in
    fault_if (rows_from columns limit 1 (records_of (before ++ rest))) (nat_le (n + row) limit) (n + row) column why limit
    (whole columns limit before rest front.rows cut h.rows ∙ ap (joined limit front.rows) k)
back_refused columns limit before rest types front fault.Memory cut h k = tt

both : (columns : List Column) (limit : ℕ) (before rest : List ℕ) (types : List SqlType) (front back : TypedRows) → IsCut before rest
    → IsReadInto (rows_from columns limit 1 (records_of before)) types front → IsReadInto (rows_from columns limit 1 (records_of rest)) types back
    → rows_from columns limit 1 (records_of (before ++ rest)) ≡ joined limit front.rows (Ok back.rows)
both columns limit before rest types front back cut h k = whole columns limit before rest front.rows cut h.rows ∙ ap (joined limit front.rows) k.rows

-- both were read, and are no more rows than may be
pub both_read : (columns : List Column) (limit : ℕ) (before rest : List ℕ) (types : List SqlType) (front back all : TypedRows) → IsCut before rest
    → IsReadInto (rows_from columns limit 1 (records_of before)) types front → IsReadInto (rows_from columns limit 1 (records_of rest)) types back
    → length front.rows + length back.rows ≤ limit → all ≡ record { types = front.types; rows = front.rows ++ back.rows; begun = [] }
    → IsReadInto (rows_from columns limit 1 (records_of (before ++ rest))) types all
both_read columns limit before rest types front back all cut h k few is =
    let read : rows_from columns limit 1 (records_of (before ++ rest)) ≡ Ok (front.rows ++ back.rows) =
    both columns limit before rest types front back cut h k
    ∙ ap (λ (b : Bool). if b then Ok (front.rows ++ back.rows) else Err (past limit)) (le-leb (length front.rows + length back.rows) limit few) in
    record {
      rows = read ∙ ap (λ (t : TypedRows). Ok t.rows) (sym is);
      typed = ap (λ (t : TypedRows). t.types) is ∙ h.typed;
      whole = ap (λ (t : TypedRows). t.begun) is;
    }

-- both were read, and are more rows than may be
pub too_many : (columns : List Column) (limit : ℕ) (before rest : List ℕ) (types : List SqlType) (front back : TypedRows) → IsCut before rest
    → IsReadInto (rows_from columns limit 1 (records_of before)) types front → IsReadInto (rows_from columns limit 1 (records_of rest)) types back
    → limit < length front.rows + length back.rows
    → IsFaultOf (rows_from columns limit 1 (records_of (before ++ rest))) (fault.Refused (limit + 1) 0 too_many_rows)
too_many columns limit before rest types front back cut h k many =
    both columns limit before rest types front back cut h k
    ∙ ap (λ (b : Bool). if b then Ok (front.rows ++ back.rows) else Err (past limit)) (lt-leb (length front.rows + length back.rows) limit many)

header_alone : (columns : List Column) (limit : ℕ) (difference : Option ℕ) (records more : List Record) → rows_under difference columns limit records ≡ Ok [] → rows_under difference columns limit (records ++ more) ≡ rows_from columns limit 1 more
header_alone columns limit (Some column) records more e = cc e
header_alone columns limit None [] more e = refl
header_alone columns limit None (fields ∷ records) more e =
    let p = parts (row_of_record columns limit 1 fields) (rows_from columns limit 2 records) [] e in
    absurd (omega (arith, ap length p.all_is))

-- under a header alone stands what is read of the text behind it
pub under_header : (columns : List Column) (limit : ℕ) (head rest : List ℕ) (rows : List Row) → IsCut head rest → table_of columns limit (records_of head) ≡ Ok rows → rows ≡ []
    → table_of columns limit (records_of (head ++ rest)) ≡ rows_from columns limit 1 (records_of rest)
under_header columns limit head rest rows cut e none = rw (records_cut head rest cut) (by_records (records_of head) (rw none at e))
  where
    by_records : (records : List Record) → table_of columns limit records ≡ Ok [] → table_of columns limit (records ++ records_of rest) ≡ rows_from columns limit 1 (records_of rest)
    by_records [] e = cc e
    by_records (header ∷ records) e = header_alone columns limit (differs_at 0 header columns) records (records_of rest) e

-- the table of a text whose rows stand under a header
pub table_read : (columns : List Column) (limit : ℕ) (text part : List ℕ) (rows : List Row) → IsUnderHeader columns limit text part → rows_from columns limit 1 (records_of part) ≡ Ok rows
    → IsTable columns limit text rows
table_read columns limit text part rows under e = record { reads = under.same ∙ e }

pub table_refused : (columns : List Column) (limit : ℕ) (text part : List ℕ) (f : TableFault) → IsUnderHeader columns limit text part → IsFaultOf (rows_from columns limit 1 (records_of part)) f
    → TableRefusedFor columns limit text f
table_refused columns limit text part f under h = record { is = rw under.same h }

-- what stands behind a header of a text without quotes is a part
pub under_header_of : (columns : List Column) (limit : ℕ) (text head rest : List ℕ) (rows : List Row) → limit < 2 ^ 32 - 1 → 0 < length columns → length columns < 2 ^ 32 → All (λ b. b ≢ quote) text
    → head ++ rest ≡ text → IsCut head rest → IsTable columns limit head rows → rows ≡ [] → IsUnderHeader columns limit text rest
under_header_of columns limit text head rest rows limited some counted plain whole cut table none = record {
  is_part = record { limited = limited; some = some; counted = counted; plain = back_plain head rest text whole plain };
  same = ap (λ (t : List ℕ). table_of columns limit (records_of t)) (sym whole) ∙ under_header columns limit head rest rows cut table.reads none;
}

-- what was made of two parts that were read
pub both_done : (columns : List Column) (limit : ℕ) (before rest : List ℕ) (front back : TypedRows) (made : Result TypedRows TableFault) → IsCut before rest
    → IsReadInto (rows_from columns limit 1 (records_of before)) (kinds columns) front → IsReadInto (rows_from columns limit 1 (records_of rest)) (kinds columns) back
    → IfOk made (λ all. length front.rows + length back.rows ≤ limit) → IfOk made (λ all. all ≡ record { types = front.types; rows = front.rows ++ back.rows; begun = [] })
    → IfErr made (λ f. (f ≡ fault.Memory) ⊎ ((limit < length front.rows + length back.rows) × (f ≡ fault.Refused (limit + 1) 0 too_many_rows)))
    → IsPartRead columns limit (before ++ rest) made
both_done columns limit before rest front back (Ok all) cut h k few rows failed = both_read columns limit before rest (kinds columns) front back all cut h k few rows
both_done columns limit before rest front back (Err f) cut h k few rows failed = elim failed [
  | inl e ↦ rw e tt
  | inr many ↦ rw many.1 (too_many columns limit before rest (kinds columns) front back cut h k many.0)
]
