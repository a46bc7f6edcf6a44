-- The field of a value reads back as the value.
use Rattle.std.proofs.Common.{◌≡◌, ◌==◌, ◌<◌, ◌≤◌, ◌^◌, ℕ, suc, List, [], ◌∷◌, length, Bool, true, false, Option, Some, None, Ok, refl, sym, arith}
use Rattle.std.specs.Prelude.{ℤ}
use Rattle.std.specs.Cmp.Lexicographic.{same_text}
use Rattle.std.specs.Fmt.{signed_decimal}
use lib.Signed.{mag}
use Rattle.std.specs.Str.{IsUtf8, chars, is_utf8}
use Rattle.std.proofs.lemmas.Bool.{ne_eqb}
use Rattle.std.proofs.lemmas.Fmt.{IsAscii-signed}
use Rattle.std.proofs.lemmas.Str.{IsUtf8-append, IsUtf8-from_ascii, IsUtf8-from_is_utf8}
use Rattle.sql_values.specs.Texts.{value_of_text}
use Rattle.sql_values.specs.declared.types.SqlType.{SqlType}
use Rattle.sql_values.specs.declared.types.SqlType.TheVariants as kind
use Rattle.sql_values.specs.declared.value.Value.{Value}
use Rattle.sql_values.specs.declared.value.Value.TheVariants as value
use Rattle.csv_tables.specs.Fields.{backslash, escaped, is_null, is_varchar, null_field, same_bytes, value_of_field}
use Rattle.std.specs.Prelude.{unsigned_abs}
use Rattle.scalar_texts.specs.Decimals.{decimal_text}
use Rattle.scalar_texts.specs.Dates.{date_text, has_date}
use Rattle.scalar_texts.specs.Booleans.{boolean_text}
use Rattle.scalar_texts.proofs.AsciiTexts.{boolean_utf8, date_utf8, decimal_utf8}
use Rattle.csv_tables.proofs.ValueLemmas.{value_null, value_parsed}

differ : (o : Option Value) (v : Value) → o ≡ Some v → o ≡ None → ⊥
differ o v e none = cc (e, none)

-- a text that writes a value is not the field of NULL, where that writes none
not_null_field : (k : SqlType) (v : Value) (text : List ℕ) (b : Bool) → same_bytes text null_field ≡ b → value_of_text k text ≡ Some v → value_of_text k null_field ≡ None → same_bytes text null_field ≡ false
not_null_field k v text true same e none = absurd (differ (value_of_text k null_field) v (rw (← same_text text null_field (sym same)) e) none)
not_null_field k v text false other e none = other

not_empty : (k : SqlType) (v : Value) (text : List ℕ) → value_of_text k text ≡ Some v → value_of_text k [] ≡ None → (length text == 0) ≡ false
not_empty k v [] e none = absurd (differ (value_of_text k []) v e none)
not_empty k v (b ∷ text) e none = ne_eqb (suc (length text)) 0 (λ z. cc z)

-- a value of a type whose texts stand as they are
pub plain_back : (k : SqlType) (v : Value) (text : List ℕ) → is_varchar k ≡ false → IsUtf8 text → value_of_text k text ≡ Some v → value_of_text k null_field ≡ None → value_of_text k [] ≡ None
    → value_of_field k text ≡ Ok v
plain_back k v text plain utf8 e null empty =
    value_parsed k text v utf8 (rw (not_null_field k v text (same_bytes text null_field) refl e null, plain, not_empty k v text e empty) refl) (rw plain e)

pub bigint_back : (z : ℤ) → mag z < 2 ^ 63 → value_of_text kind.Bigint (signed_decimal z) ≡ Some (value.Bigint z)
    → value_of_field kind.Bigint (signed_decimal z) ≡ Ok (value.Bigint z)
bigint_back z h e = plain_back kind.Bigint (value.Bigint z) (signed_decimal z) refl (IsUtf8-from_ascii (signed_decimal z) (IsAscii-signed z h)) e refl refl

pub boolean_back : (b : Bool) → value_of_text kind.Boolean (boolean_text b) ≡ Some (value.Boolean b)
    → value_of_field kind.Boolean (boolean_text b) ≡ Ok (value.Boolean b)
boolean_back b e = plain_back kind.Boolean (value.Boolean b) (boolean_text b) refl (boolean_utf8 b) e refl refl

pub decimal_back : (p s : ℕ) (z : ℤ) → p ≤ 38 → unsigned_abs z < 10 ^ p → value_of_text (kind.Decimal p s) (decimal_text s z) ≡ Some (value.Decimal z)
    → value_of_field (kind.Decimal p s) (decimal_text s z) ≡ Ok (value.Decimal z)
decimal_back p s z most small e = plain_back (kind.Decimal p s) (value.Decimal z) (decimal_text s z) refl (decimal_utf8 p s z most small) e refl refl

pub date_back : (z : ℤ) → has_date z ≡ true → value_of_text kind.Date (date_text z) ≡ Some (value.Date z)
    → value_of_field kind.Date (date_text z) ≡ Ok (value.Date z)
date_back z day e = plain_back kind.Date (value.Date z) (date_text z) refl (date_utf8 z day) e refl refl

pub null_back : (k : SqlType) → value_of_field k null_field ≡ Ok value.Null
unfolding is_utf8 chars lib.Utf8.encode
null_back k = value_null k null_field (IsUtf8-from_is_utf8 null_field refl) refl

backslash_is_utf8 : IsUtf8 (backslash ∷ [])
unfolding is_utf8 chars lib.Utf8.encode
backslash_is_utf8 = IsUtf8-from_is_utf8 (backslash ∷ []) refl

not_n : (a : ℕ) (rest : List ℕ) → a ≡ backslash → is_null kind.Varchar (backslash ∷ a ∷ rest) ≡ false
not_n a rest e = rw e refl

-- the escape makes no text of NULL, and is taken off again
pub varchar_back : (text : List ℕ) → IsUtf8 text → value_of_text kind.Varchar text ≡ Some (value.Varchar text) → value_of_field kind.Varchar (escaped text) ≡ Ok (value.Varchar text)
varchar_back [] utf8 e = value_parsed kind.Varchar [] (value.Varchar []) utf8 refl e
varchar_back (a ∷ rest) utf8 e = by_first a rest utf8 e (a == backslash) refl
  where
    by_first : (a : ℕ) (rest : List ℕ) → IsUtf8 (a ∷ rest) → value_of_text kind.Varchar (a ∷ rest) ≡ Some (value.Varchar (a ∷ rest)) → (b : Bool) → (a == backslash) ≡ b
        → value_of_field kind.Varchar (escaped (a ∷ rest)) ≡ Ok (value.Varchar (a ∷ rest))
    by_first a rest utf8 e true same = rw same (value_parsed kind.Varchar (backslash ∷ a ∷ rest) (value.Varchar (a ∷ rest)) (IsUtf8-append (backslash ∷ []) (a ∷ rest) backslash_is_utf8 utf8) (not_n a rest (grind (arith, same))) (rw same e))
    by_first a rest utf8 e false other = rw other (value_parsed kind.Varchar (a ∷ rest) (value.Varchar (a ∷ rest)) utf8 (rw other refl) (rw other e))
