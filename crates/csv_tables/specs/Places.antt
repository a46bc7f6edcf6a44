-- Where a text is refused as a table, and why.
use Rattle.std.specs.Prelude.{ℕ, ◌∷◌, List, Result, Ok, Err, ◌≡◌}
use Rattle.sql_values.specs.declared.value.Value.{Value}
use Rattle.csv_tables.specs.declared.fault.TableFault.{TableFault}
use Rattle.csv_tables.specs.declared.fault.TableFault.TheVariants as fault

-- a row, the header being row 0, a column of it, and why it was refused
pub record Place : Type 0 where
  pub row : ℕ
  pub column : ℕ
  pub why : ℕ

abbrev pub place : ℕ → ℕ → ℕ → Place
place row column why = record { row = row; column = column; why = why }

-- the header is not the names of the columns, or there is none
abbrev pub wrong_header : ℕ
wrong_header = 1

-- the record has more or fewer fields than there are columns
abbrev pub wrong_width : ℕ
wrong_width = 2

abbrev pub not_utf8 : ℕ
not_utf8 = 3

-- the field is no text of its column's type
abbrev pub malformed : ℕ
malformed = 4

abbrev pub too_many_rows : ℕ
too_many_rows = 5

-- what is known of a fault: what was read is refused in its place, or memory was wanting
abbrev pub IsFaultOf : {A : Type 0} → Result A Place → TableFault → Type 0
IsFaultOf read (fault.Refused row column why) = read ≡ Err (place row column why)
IsFaultOf read fault.Memory = Unit {0}

-- one read and then the others: the first that is refused decides
abbrev pub first_and_rest : {A E : Type 0} → Result A E → Result (List A) E → Result (List A) E
first_and_rest (Err e) others = Err e
first_and_rest (Ok x) (Err e) = Err e
first_and_rest (Ok x) (Ok xs) = Ok (x ∷ xs)

-- the cell of a field, or its place
abbrev pub in_place : ℕ → ℕ → Result Value ℕ → Result Value Place
in_place row column (Ok v) = Ok v
in_place row column (Err why) = Err (place row column why)
