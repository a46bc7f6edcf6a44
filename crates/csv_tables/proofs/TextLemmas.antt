-- The records of a result, field after field and row after row.
use Rattle.std.proofs.Common.{◌≡◌, ◌<◌, ◌+◌, ◌∙◌, ◌==◌, ◌++◌, ◌∷◌, ℕ, zero, suc, List, [], length, take, get_or, refl, sym, ap, arith, add-one, append_assoc, length-append, if◌then◌else◌}
use Rattle.std.proofs.lemmas.Bool.{ne_eqb}
use Rattle.std.proofs.lemmas.List.{append-nil, length-take, take_more}
use Rattle.std.proofs.lemmas.Grind.{flat_map-append}
use Rattle.std.specs.Prelude.{slice_get, Some}
use Rattle.csv.specs.Writing.{default_writer, fields_text, is_blank, next_sep, quote_mark}
use Rattle.csv.proofs.WriteFacts.{row-more}
use Rattle.sql_values.specs.Cells.{cell}
use Rattle.sql_values.specs.declared.types.SqlType.{SqlType}
use Rattle.sql_values.specs.declared.value.Value.{Value}
use Rattle.csv_tables.specs.Fields.{field_text as cell_field}
use Rattle.csv_tables.specs.ResultTexts.{body_text, fields_from, record_text, rows_text, written}

pub fields_count : (n : ℕ) (kinds : List SqlType) (row : List Value) → length (fields_from n kinds row) ≡ length kinds
fields_count n [] row = refl
fields_count n (kind ∷ kinds) row = ap suc (fields_count (n + 1) kinds row)

same_kind : (a b : SqlType) → Some a ≡ Some b → a ≡ b
same_kind a b e = cc e

pub fields_more : (n : ℕ) (kinds : List SqlType) (row : List Value) (i j : ℕ) (kind : SqlType) → slice_get kinds i ≡ Some kind → j ≡ n + i
    → fields_from n (take (i + 1) kinds) row ≡ fields_from n (take i kinds) row ++ cell_field kind (cell row j) ∷ []
fields_more n [] row i j kind at e = cc at
fields_more n (k ∷ kinds) row zero j kind at e = let same : j ≡ n = omega (arith, e) in rw (same, same_kind k kind at) refl
fields_more n (k ∷ kinds) row (suc i) j kind at e =
    let rest = fields_more (n + 1) kinds row i j kind at (omega (arith, e)) in
    rw (add-one (suc i)) (ap (λ (l : List (List ℕ)). cell_field k (cell row n) ∷ l) (rw (add-one i) at rest))

-- one more field was appended to a record that begins behind some bytes
pub field_next : (before old mid new : List ℕ) (fields : List (List ℕ)) (field : List ℕ) (i : ℕ) → length fields ≡ i → old ≡ before ++ body_text fields → mid ≡ old ++ next_sep default_writer i
    → new ≡ mid ++ written field → new ≡ before ++ body_text (fields ++ field ∷ [])
field_next before old mid new fields field i count at_old at_mid at_new =
    rw (row-more default_writer fields field, count, at_new, at_mid, at_old)
    (append_assoc (before ++ body_text fields) (next_sep default_writer i) (written field) ∙ append_assoc before (body_text fields) _)

-- the field of the next cell of a row
pub cell_next : (before old mid new : List ℕ) (kinds : List SqlType) (row : List Value) (i : ℕ) (kind : SqlType) (v : Value) → slice_get kinds i ≡ Some kind → i < length kinds → v ≡ cell row i
    → old ≡ before ++ body_text (fields_from 0 (take i kinds) row) → mid ≡ old ++ next_sep default_writer i → new ≡ mid ++ written (cell_field kind v)
    → new ≡ before ++ body_text (fields_from 0 (take (i + 1) kinds) row)
cell_next before old mid new kinds row i kind v at lt is at_old at_mid at_new =
    let size = length-take i kinds in
    let count : length (fields_from 0 (take i kinds) row) ≡ i = fields_count 0 (take i kinds) row ∙ omega (arith, size, lt) in
    rw (fields_more 0 kinds row i i kind at (omega arith), ← is) (field_next before old mid new (fields_from 0 (take i kinds) row) (cell_field kind v) i count at_old at_mid at_new)

-- the field of the next name
pub name_next : (before old mid new : List ℕ) (names : List (List ℕ)) (i : ℕ) (name field : List ℕ) → i < length names → name ≡ get_or names i name → field ≡ name
    → old ≡ before ++ body_text (take i names) → mid ≡ old ++ next_sep default_writer i → new ≡ mid ++ written field → new ≡ before ++ body_text (take (i + 1) names)
name_next before old mid new names i name field lt is same at_old at_mid at_new =
    let size = length-take i names in
    let count : length (take i names) ≡ i = omega (arith, size, lt) in
    let next = field_next before old mid new (take i names) name i count at_old at_mid (rw same at at_new) in
    next ∙ ap (λ (fields : List (List ℕ)). before ++ body_text fields) (ap (λ (l : List ℕ). take i names ++ l ∷ []) is ∙ sym (take_more names i name lt))

-- a record is blank where its fields show no byte
blank_is : (fields : List (List ℕ)) → is_blank default_writer fields ≡ (length (body_text fields) == 0)
unfolding is_blank fields_text
blank_is [] = refl
blank_is (field ∷ []) = ap (λ (l : List ℕ). length l == 0) (sym (append-nil (written field)))
blank_is (field ∷ next ∷ rest) =
    let size = length-append (written field) (44 ∷ (written next ++ fields_text default_writer rest)) in
    sym (ne_eqb _ 0 (λ e. absurd (omega (arith, e, size))))

same_start : (a b n : ℕ) → a ≡ n + b → (a == n) ≡ (b == 0)
same_start a b n e = grind (arith, e)

pub record_ended : (before old mid new : List ℕ) (fields : List (List ℕ)) (start : ℕ) → start ≡ length before → old ≡ before ++ body_text fields
    → mid ≡ old ++ (if length old == start then quote_mark ∷ quote_mark ∷ [] else []) → new ≡ mid ++ 10 ∷ [] → new ≡ before ++ record_text fields
record_ended before old mid new fields start at_start at_old at_mid at_new =
    let size = length-append before (body_text fields) in
    let test : (length old == start) ≡ is_blank default_writer fields = same_start _ _ _ (rw (at_start, at_old) size) ∙ sym (blank_is fields) in
    rw (at_new, at_mid, test, at_old)
    (append_assoc (before ++ body_text fields) _ (10 ∷ []) ∙ append_assoc before (body_text fields) _)

-- one more row
pub rows_next : (kinds : List SqlType) (rows : List (List Value)) (place : ℕ) → place < length rows
    → rows_text kinds (take (place + 1) rows) ≡ rows_text kinds (take place rows) ++ record_text (fields_from 0 kinds (get_or rows place []))
rows_next kinds rows place lt =
    let text : List Value → List ℕ = λ row. record_text (fields_from 0 kinds row) in
    rw (take_more rows place [] lt, flat_map-append text (take place rows) (get_or rows place [] ∷ []), append-nil (text (get_or rows place []))) refl

pub rows_put : (before old new : List ℕ) (kinds : List SqlType) (rows : List (List Value)) (place : ℕ) → place < length rows
    → old ≡ before ++ rows_text kinds (take place rows) → new ≡ old ++ record_text (fields_from 0 kinds (get_or rows place []))
    → new ≡ before ++ rows_text kinds (take (place + 1) rows)
rows_put before old new kinds rows place lt at_old at_new =
    at_new ∙ ap (λ (l : List ℕ). l ++ record_text (fields_from 0 kinds (get_or rows place []))) at_old
    ∙ append_assoc before (rows_text kinds (take place rows)) (record_text (fields_from 0 kinds (get_or rows place [])))
    ∙ ap (λ (l : List ℕ). before ++ l) (sym (rows_next kinds rows place lt))
