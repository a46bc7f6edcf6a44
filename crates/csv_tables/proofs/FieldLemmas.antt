-- The fields of a record one after the other.
use Rattle.std.proofs.Common.{◌≡◌, ◌<◌, ◌≤◌, ◌+◌, ◌∙◌, ℕ, zero, suc, List, [], ◌∷◌, length, drop, get_or, drop-cons, Option, Some, None, refl, sym, ap, arith, add-one}
use Rattle.std.specs.Prelude.{if◌then◌else◌}
use Rattle.std.proofs.lemmas.List.{drop_all}
use Rattle.csv.specs.Records.{field_at}
use Rattle.sql_values.specs.declared.types.Column.{Column}
use Rattle.csv_tables.specs.Records.{names_column}
use Rattle.csv_tables.specs.Tables.{differs_at}

same_field : (x f : List ℕ) → Some x ≡ Some f → x ≡ f
same_field x f e = cc e

-- a field, if there is one at the place, and those after it
pub field_there : (fields : List (List ℕ)) (i : ℕ) (f : List ℕ) → field_at fields i ≡ Some f → drop i fields ≡ f ∷ drop (i + 1) fields
unfolding field_at
field_there [] i f e = cc e
field_there (x ∷ fields) zero f e = rw (same_field x f e) refl
field_there (x ∷ fields) (suc i) f e = rw (add-one (suc i)) (field_there fields i f e ∙ rw (add-one i) refl)

pub field_missing : (fields : List (List ℕ)) (i : ℕ) → field_at fields i ≡ None → drop i fields ≡ []
unfolding field_at
field_missing [] zero e = refl
field_missing [] (suc i) e = refl
field_missing (x ∷ fields) zero e = cc e
field_missing (x ∷ fields) (suc i) e = field_missing fields i e

-- a column and those after it
pub column_there : (columns : List Column) (i : ℕ) (c : Column) → i < length columns → drop i columns ≡ get_or columns i c ∷ drop (i + 1) columns
column_there columns i c lt = rw (add-one i) (drop-cons columns i c lt)

step_of : (fields : List (List ℕ)) (columns : List Column) (n i : ℕ) (c : Column) → drop i columns ≡ c ∷ drop (i + 1) columns → (o : Option (List ℕ)) → field_at fields i ≡ o
    → differs_at n (drop i fields) (drop i columns) ≡ (if names_column c o then differs_at (n + 1) (drop (i + 1) fields) (drop (i + 1) columns) else Some n)
step_of fields columns n i c cs None e = rw (cs, field_missing fields i e) refl
step_of fields columns n i c cs (Some f) e = rw (cs, field_there fields i f e) refl

pub differs_step : (fields : List (List ℕ)) (columns : List Column) (n i : ℕ) (c : Column) → i < length columns → c ≡ get_or columns i c
    → differs_at n (drop i fields) (drop i columns)
    ≡ (if names_column c (field_at fields i) then differs_at (n + 1) (drop (i + 1) fields) (drop (i + 1) columns) else Some n)
differs_step fields columns n i c lt e = step_of fields columns n i c (column_there columns i c lt ∙ ap (λ (x : Column). x ∷ drop (i + 1) columns) (sym e)) (field_at fields i) refl

pub differs_end : (fields : List (List ℕ)) (columns : List Column) (n i : ℕ) → i ≡ length columns → length fields ≤ i → differs_at n (drop i fields) (drop i columns) ≡ None
differs_end fields columns n i e h = rw (drop_all i fields h, drop_all i columns (omega (arith, e))) refl

pub differs_longer : (fields : List (List ℕ)) (columns : List Column) (n i : ℕ) → i ≡ length columns → i < length fields → differs_at n (drop i fields) (drop i columns) ≡ Some n
differs_longer fields columns n i e h = rw (drop_all i columns (omega (arith, e)), drop-cons fields i [] h) refl

pub ruleset header_lemmas = (differs_step, differs_end, differs_longer)
