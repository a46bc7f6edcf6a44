-- The cell of a field, case by case.
use Rattle.std.proofs.Common.{◌≡◌, ℕ, List, Bool, true, false, Some, None, Ok, Err, refl}
use Rattle.std.proofs.lemmas.Str.{IsUtf8-from_is_utf8, is_utf8-from_IsUtf8}
use Rattle.std.specs.Str.{IsUtf8, is_utf8}
use Rattle.sql_values.specs.Texts.{value_of_text}
use Rattle.sql_values.specs.declared.types.SqlType.{SqlType}
use Rattle.sql_values.specs.declared.value.Value.{Value}
use Rattle.sql_values.specs.declared.value.Value.TheVariants as value
use Rattle.csv_tables.specs.Fields.{is_null, text_in, value_of_field}
use Rattle.csv_tables.specs.Places.{malformed, not_utf8}

refused_by : (kind : SqlType) (field : List ℕ) (is_text : Bool) → is_utf8 field ≡ is_text → (is_text ≡ true → IsUtf8 field) → ¬ (IsUtf8 field) → value_of_field kind field ≡ Err not_utf8
refused_by kind field true e to other = absurd (other (to refl))
refused_by kind field false e to other = rw e refl

pub value_not_utf8 : (kind : SqlType) (field : List ℕ) → ¬ (IsUtf8 field) → value_of_field kind field ≡ Err not_utf8
value_not_utf8 kind field other = refused_by kind field (is_utf8 field) refl (IsUtf8-from_is_utf8 field) other

pub value_null : (kind : SqlType) (field : List ℕ) → IsUtf8 field → is_null kind field ≡ true → value_of_field kind field ≡ Ok value.Null
value_null kind field text null = rw (is_utf8-from_IsUtf8 field text, null) refl

pub value_parsed : (kind : SqlType) (field : List ℕ) (v : Value) → IsUtf8 field → is_null kind field ≡ false → value_of_text kind (text_in kind field) ≡ Some v
    → value_of_field kind field ≡ Ok v
value_parsed kind field v text null e = rw (is_utf8-from_IsUtf8 field text, null, e) refl

pub value_malformed : (kind : SqlType) (field : List ℕ) → IsUtf8 field → is_null kind field ≡ false → value_of_text kind (text_in kind field) ≡ None
    → value_of_field kind field ≡ Err malformed
value_malformed kind field text null e = rw (is_utf8-from_IsUtf8 field text, null, e) refl

pub ruleset field_values = (value_not_utf8, value_null, value_parsed, value_malformed)
