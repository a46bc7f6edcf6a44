-- The cells of a line, field by field, and the rows of lines.
use Rattle.std.proofs.Common.{◌≡◌, ◌≢◌, ◌<◌, ◌≤◌, ◌+◌, ◌++◌, ◌∷◌, ℕ, Bor, Bool, true, false, List, [], length, drop, get_or, Option, None, Result, Ok, Err, refl, arith}
use Rattle.std.specs.Prelude.{if◌then◌else◌, ◌==◌, option_map}
use Rattle.std.proofs.lemmas.Bool.{eqb-false, eqb-true}
use Rattle.sql_values.specs.declared.types.Column.{Column}
use Rattle.sql_values.specs.declared.value.Value.{Value}
use Rattle.csv_tables.specs.declared.fault.TableFault.{TableFault}
use Rattle.csv_tables.specs.declared.fault.TableFault.TheVariants as fault
use Rattle.csv_tables.specs.Fields.{value_of_field}
use Rattle.csv_tables.specs.Lines.{fields_behind, fields_left, fields_of_line}
use Rattle.csv_tables.specs.Places.{IsFaultOf, Place, first_and_rest, in_place, place, wrong_width}
use Rattle.csv_tables.specs.Tables.{cells_from, held, row_of_record}
use Rattle.csv_tables.proofs.BuildLemmas.{row_is}
use Rattle.csv_tables.proofs.FieldLemmas.{column_there}
use Rattle.csv_tables.proofs.RowLemmas.{no_fields}

-- a line has a field
pub fields_some : (field line : List ℕ) → 0 < length (fields_behind field line)
fields_some field [] = omega arith
fields_some field (c ∷ line) = by_comma (c == 44) (fields_some (field ++ (c ∷ [])) line)
  where
    by_comma : (b : Bool) → 0 < length (fields_behind (field ++ (c ∷ [])) line) → 0 < length (if b then field ∷ fields_behind [] line else fields_behind (field ++ (c ∷ [])) line)
    by_comma true h = omega arith
    by_comma false h = h

pub line_step : (row n : ℕ) (columns : List Column) (i : ℕ) (c : Column) (rest field : List ℕ) (behind : Option (List ℕ)) → i < length columns → fields_of_line rest ≡ field ∷ fields_left behind
    → cells_from row n (drop i columns) (fields_of_line rest)
    ≡ first_and_rest (in_place row n (value_of_field (get_or columns i c).kind field)) (cells_from row (n + 1) (drop (i + 1) columns) (fields_left behind))
line_step row n columns i c rest field behind lt e = rw (column_there columns i c lt, e) refl

-- no field is left for a column
pub cells_none : (row n : ℕ) (columns : List Column) (left : Option (Bor (List ℕ))) → left ≡ None → cells_from row n columns (fields_left (option_map (λ (rest : Bor (List ℕ)). rest.now) left)) ≡ Ok []
cells_none row n columns left e = rw e (no_fields row n columns)

-- a field is left past the columns
pub is_wider : (n at width : ℕ) (rest : List ℕ) → n ≡ at + length (fields_of_line rest) → width ≤ at → n ≡ width → ⊥
is_wider n at width rest e past same = absurd (omega (arith, fields_some [] rest, e, past, same))

pub wrong_row : (columns : List Column) (limit row : ℕ) (fields : List (List ℕ)) (found : TableFault) → row ≢ limit + 1 → length fields ≢ length columns
    → found ≡ fault.Refused row (held (length fields)) wrong_width → IsFaultOf (row_of_record columns limit row fields) found
wrong_row columns limit row fields found within other e = rw e (by_tests (row == limit + 1) (length fields == length columns) _ _ refl refl)
  where
    by_tests : (past same : Bool) (p : Place) (cells : Result (List Value) Place) → (row == limit + 1) ≡ past → (length fields == length columns) ≡ same
        → (if past then Err p else if same then cells else Err (place row (held (length fields)) wrong_width)) ≡ Err (place row (held (length fields)) wrong_width)
    by_tests true same p cells b s = absurd (within (eqb-true row (limit + 1) b))
    by_tests false true p cells b s = absurd (other (eqb-true (length fields) (length columns) s))
    by_tests false false p cells b s = refl

refused_by : (columns : List Column) (limit row : ℕ) (fields : List (List ℕ)) (cell found : TableFault) → row ≢ limit + 1 → (b : Bool) → (length fields == length columns) ≡ b
    → IsFaultOf (cells_from row 0 columns fields) cell → (length fields ≡ length columns → found ≡ cell) → (length fields ≢ length columns → found ≡ fault.Refused row (held (length fields)) wrong_width)
    → IsFaultOf (row_of_record columns limit row fields) found
refused_by columns limit row fields cell found within true e h wide other =
    let same = eqb-true (length fields) (length columns) e in
    rw (row_is columns limit row fields within same, wide same) h
refused_by columns limit row fields cell found within false e h wide other = wrong_row columns limit row fields found within (eqb-false _ _ e) (other (eqb-false _ _ e))

-- a line of which a cell is refused
pub line_refused : (columns : List Column) (limit row : ℕ) (fields : List (List ℕ)) (cell found : TableFault) → row ≢ limit + 1
    → IsFaultOf (cells_from row 0 columns fields) cell → (length fields ≡ length columns → found ≡ cell) → (length fields ≢ length columns → found ≡ fault.Refused row (held (length fields)) wrong_width)
    → IsFaultOf (row_of_record columns limit row fields) found
line_refused columns limit row fields cell found within h wide other = refused_by columns limit row fields cell found within (length fields == length columns) refl h wide other
