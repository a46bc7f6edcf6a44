-- The cells of a record and the rows of records, taken one after the other.
use Rattle.std.proofs.Common.{◌≡◌, ◌<◌, ◌≤◌, ◌+◌, ◌++◌, ◌∙◌, ℕ, List, [], ◌∷◌, length, drop, get_or, Some, None, Result, Ok, Err, refl, sym, ap, append_assoc}
use Rattle.std.proofs.lemmas.List.{append-nil, drop_all}
use Rattle.csv.specs.Records.{field_at}
use Rattle.sql_values.specs.declared.types.Column.{Column}
use Rattle.csv_tables.specs.declared.fault.TableFault.{TableFault}
use Rattle.csv_tables.specs.declared.fault.TableFault.TheVariants as fault
use Rattle.csv_tables.specs.Fields.{value_of_field}
use Rattle.csv_tables.specs.Places.{IsFaultOf, Place, first_and_rest, in_place}
use Rattle.csv_tables.specs.Tables.{cells_from}
use Rattle.csv_tables.proofs.FieldLemmas.{column_there, field_missing, field_there}

-- what was read before, and then the rest
abbrev pub after : {A : Type 0} → List A → Result (List A) Place → Result (List A) Place
after done (Ok rest) = Ok (done ++ rest)
after done (Err e) = Err e

pub after_none : {A : Type 0} (r : Result (List A) Place) → r ≡ after [] r
after_none (Ok rest) = refl
after_none (Err e) = refl

after_one : {A : Type 0} (done : List A) (x : A) (r : Result (List A) Place) → after done (first_and_rest (Ok x) r) ≡ after (done ++ x ∷ []) r
after_one done x (Ok rest) = ap (λ (l : List _). Ok l) (sym (append_assoc done (x ∷ []) rest))
after_one done x (Err e) = refl

-- one more was read
pub goes_on : {A : Type 0} (whole : Result (List A) Place) (done : List A) (now later : Result (List A) Place) (here : Result A Place) (x : A)
    → whole ≡ after done now → now ≡ first_and_rest here later → here ≡ Ok x → whole ≡ after (done ++ x ∷ []) later
goes_on whole done now later here x w n h = w ∙ rw (n, h) (after_one done x later)

-- the next one was refused
pub stops : {A : Type 0} (whole : Result (List A) Place) (done : List A) (now later : Result (List A) Place) (here : Result A Place) (fault : TableFault)
    → whole ≡ after done now → now ≡ first_and_rest here later → IsFaultOf here fault → IsFaultOf whole fault
stops whole done now later here (fault.Refused row column why) w n h = w ∙ rw (n, h) refl
stops whole done now later here fault.Memory w n h = tt

-- nothing is left
pub is_done : {A : Type 0} (whole : Result (List A) Place) (done : List A) (now : Result (List A) Place) → whole ≡ after done now → now ≡ Ok [] → whole ≡ Ok done
is_done whole done now w n = w ∙ rw (n, append-nil done) refl

pub cells_step : (row n : ℕ) (columns : List Column) (fields : List (List ℕ)) (i : ℕ) (c : Column) (f : List ℕ) → i < length columns → field_at fields i ≡ Some f
    → cells_from row n (drop i columns) (drop i fields)
    ≡ first_and_rest (in_place row n (value_of_field (get_or columns i c).kind f)) (cells_from row (n + 1) (drop (i + 1) columns) (drop (i + 1) fields))
cells_step row n columns fields i c f lt there = rw (column_there columns i c lt, field_there fields i f there) refl

pub no_fields : (row n : ℕ) (columns : List Column) → cells_from row n columns [] ≡ Ok []
no_fields row n [] = refl
no_fields row n (c ∷ columns) = refl

pub cells_short : (row n : ℕ) (columns : List Column) (fields : List (List ℕ)) (i : ℕ) → field_at fields i ≡ None → cells_from row n (drop i columns) (drop i fields) ≡ Ok []
cells_short row n columns fields i e = rw (field_missing fields i e) (no_fields row n (drop i columns))

pub cells_end : (row n : ℕ) (columns : List Column) (fields : List (List ℕ)) (i : ℕ) → length columns ≤ i → cells_from row n (drop i columns) fields ≡ Ok []
cells_end row n columns fields i h = rw (drop_all i columns h) refl
