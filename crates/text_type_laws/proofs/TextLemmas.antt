-- The value that a text writes has the type, and a text names only types.
use Rattle.std.proofs.Common.{◌≡◌, ℕ, ◌+◌, ◌-◌, ◌^◌, ◌≤◌, List, length, take, drop, Bool, true, false, cond, min, Option, Some, None, refl, ap, sym, ◌∙◌, subst, arith, ℤ, nat_abs, nat_le, nat_lt, ◌&&◌, ◌==◌, option_and_then, option_map, codes}
use Rattle.std.specs.Prelude.{is_some, slice_index, slice_range}
use Rattle.std.proofs.lemmas.Bool.Decides.{nat_tests}
use Rattle.decimals.specs.Arithmetic.{Parts, checked_parts, is_decimal_type}
use Rattle.decimals.specs.Arithmetic as exact
use Rattle.scalar_texts.specs.Booleans.{boolean_of}
use Rattle.scalar_texts.specs.Dates.{date_of, day_number, day_of, has_date}
use Rattle.scalar_texts.specs.Decimals.{decimal_of, has_digits, magnitude_of}
use Rattle.scalar_texts.specs.Numbers.{bigint_of, has_64_bits, number_of, only_if, signed_of}
use Rattle.sql_values.specs.declared.types.SqlType.{SqlType}
use Rattle.sql_values.specs.declared.types.SqlType.TheVariants.{Boolean, Bigint, Decimal, Varchar, Date}
use Rattle.sql_values.specs.declared.value.Value.{Value}
use Rattle.sql_values.specs.declared.value.Value.TheVariants as value
use Rattle.sql_values.specs.Texts.{longest_text, value_of_text}
use Rattle.sql_values.specs.TypeTexts.{closing_parenthesis, comma_in, decimal_type, decimal_type_of, parameters_at, parameters_of, plain_number_of, same_text, type_of_text}
use Rattle.sql_values.specs.Types.{IsType, has_type}
use Rattle.text_type_laws.proofs.DayLemmas.{day_has_date}

-- what a text writes, as a value of a variant
record Written {A : Type 0} (make : A → Value) (o : Option A) (v : Value) : Type 0 where
  content : A
  is : o ≡ Some content
  same : make content ≡ v

written : {A : Type 0} (make : A → Value) (o : Option A) (v : Value) → option_map make o ≡ Some v → Written make o v
written make None v e = cc
written make (Some x) v e = record { content = x; is = refl; same = cc e }

-- what is kept by a test passes it
passes : (test : ℤ → Bool) (o : Option ℤ) (z : ℤ) → option_and_then (only_if test) o ≡ Some z → test z ≡ true
passes test None z e = cc
passes test (Some x) z e = by_test (test x) refl e
  where
    by_test : (b : Bool) → test x ≡ b → cond b (Some x) None ≡ Some z → test z ≡ true
    by_test true t e = let same : x ≡ z = cc e in subst (λ (y : ℤ). test y ≡ true) same t
    by_test false t e = cc

boolean_typed : (o : Option Bool) (v : Value) → Written value.Boolean o v → has_type Boolean v ≡ true
boolean_typed o v w = subst (λ (x : Value). has_type Boolean x ≡ true) w.same refl

bigint_typed : (text : List ℕ) (v : Value) → Written value.Bigint (bigint_of text) v → has_type Bigint v ≡ true
bigint_typed text v w = subst (λ (x : Value). has_type Bigint x ≡ true) w.same (passes has_64_bits (signed_of number_of text) w.content w.is)

is_decimal : (p s : ℕ) → 1 ≤ p → p ≤ 38 → s ≤ p → is_decimal_type p s ≡ true
is_decimal p s some few places = grind (arith, nat_tests)

-- a type of decimals has at most 38 digits, so no other bound holds
digits_same : (p : ℕ) (z : ℤ) → p ≤ 38 → has_digits p z ≡ exact.has_digits p z
digits_same p z few = let least : min p 38 ≡ p = omega arith in ap (λ (n : ℕ). nat_lt (nat_abs z) (10 ^ n)) least

checked : (z : ℤ) (p s : ℕ) → is_decimal_type p s ≡ true → exact.has_digits p z ≡ true → is_some (checked_parts z p s) ≡ true
checked z p s kind digits =
    ap (λ (b : Bool). is_some {T = Parts} (cond (b && exact.has_digits p z) (Some (z, p, s)) None)) kind
    ∙ ap (λ (b : Bool). is_some {T = Parts} (cond b (Some (z, p, s)) None)) digits

decimal_typed : (p s : ℕ) → IsType (Decimal p s) → (text : List ℕ) (v : Value) → Written value.Decimal (decimal_of p s text) v → has_type (Decimal p s) v ≡ true
decimal_typed p s h text v w =
    let digits = passes (has_digits p) (signed_of (magnitude_of s) text) w.content w.is in
    subst (λ (x : Value). has_type (Decimal p s) x ≡ true) w.same
    (checked w.content p s (is_decimal p s h.0 h.1 h.2) (sym (digits_same p w.content h.1) ∙ digits))

date_typed : (text : List ℕ) (v : Value) → Written value.Date (date_of text) v → has_type Date v ≡ true
date_typed text v w =
    subst (λ (x : Value). has_type Date x ≡ true) w.same
    (by_test ((length text == 10) && (slice_index text 4 == 45) && (slice_index text 7 == 45)) w.content w.is)
  where
    by_test : (b : Bool) (z : ℤ)
        → cond b (option_and_then day_number (day_of (number_of (slice_range text 0 4)) (number_of (slice_range text 5 7)) (number_of (slice_range text 8 10)))) None ≡ Some z → has_date z ≡ true
    by_test true z e = day_has_date (day_of (number_of (slice_range text 0 4)) (number_of (slice_range text 5 7)) (number_of (slice_range text 8 10))) z e
    by_test false z e = cc

varchar_typed : (text : List ℕ) (v : Value) (b : Bool) → nat_le (length text) longest_text ≡ b → cond b (Some (value.Varchar text)) None ≡ Some v → has_type Varchar v ≡ true
varchar_typed text v true t e = let same : value.Varchar text ≡ v = cc e in subst (λ (x : Value). has_type Varchar x ≡ true) same t
varchar_typed text v false t e = cc

pub parsed_has_type : (kind : SqlType) → IsType kind → (text : List ℕ) (v : Value) → value_of_text kind text ≡ Some v → has_type kind v ≡ true
parsed_has_type Boolean h text v e = boolean_typed (boolean_of text) v (written value.Boolean (boolean_of text) v e)
parsed_has_type Bigint h text v e = bigint_typed text v (written value.Bigint (bigint_of text) v e)
parsed_has_type (Decimal p s) h text v e = decimal_typed p s h text v (written value.Decimal (decimal_of p s text) v e)
parsed_has_type Varchar h text v e = varchar_typed text v (nat_le (length text) longest_text) refl e
parsed_has_type Date h text v e = date_typed text v (written value.Date (date_of text) v e)

kind_same : (k kind : SqlType) → Some k ≡ Some kind → k ≡ kind
kind_same k kind e = cc

-- a precision and a scale that pass the tests are those of a type
decimal_is_type : (a b : Option ℕ) (kind : SqlType) → decimal_type a b ≡ Some kind → IsType kind
decimal_is_type None b kind e = absurd cc
decimal_is_type (Some p) None kind e = absurd cc
decimal_is_type (Some p) (Some s) kind e = by_test (nat_le 1 p && nat_le p 38 && nat_le s p) refl e
  where
    bounds : (nat_le 1 p && nat_le p 38 && nat_le s p) ≡ true → IsType (Decimal p s)
    bounds t = grind (arith, nat_tests)

    by_test : (b : Bool) → (nat_le 1 p && nat_le p 38 && nat_le s p) ≡ b → cond b (Some (Decimal p s)) None ≡ Some kind → IsType kind
    by_test true t e = subst IsType (kind_same (Decimal p s) kind e) (bounds t)
    by_test false t e = absurd cc

parameters_are_type : (text : List ℕ) (o : Option ℕ) (kind : SqlType) → parameters_at text o ≡ Some kind → IsType kind
parameters_are_type text None kind e = absurd cc
parameters_are_type text (Some place) kind e = decimal_is_type (plain_number_of (take place text)) (plain_number_of (drop (place + 1) text)) kind e

decimal_named : (text : List ℕ) (kind : SqlType) → decimal_type_of text ≡ Some kind → IsType kind
decimal_named text kind e =
    by_test (nat_le 9 (length text) && same_text (slice_range text 0 8) (codes "decimal(") && (slice_index text (length text - 1) == closing_parenthesis)) e
  where
    by_test : (b : Bool) → cond b (parameters_of (slice_range text 8 (length text - 1))) None ≡ Some kind → IsType kind
    by_test true e = parameters_are_type (slice_range text 8 (length text - 1)) (comma_in (slice_range text 8 (length text - 1))) kind e
    by_test false e = absurd cc

pub named_is_type : (text : List ℕ) (kind : SqlType) → type_of_text text ≡ Some kind → IsType kind
named_is_type text kind e =
    by_tests (same_text text (codes "boolean")) (same_text text (codes "bigint")) (same_text text (codes "varchar")) (same_text text (codes "date")) e
  where
    by_tests : (a b c d : Bool) → cond a (Some Boolean) (cond b (Some Bigint) (cond c (Some Varchar) (cond d (Some Date) (decimal_type_of text)))) ≡ Some kind → IsType kind
    by_tests true b c d e = subst IsType (kind_same Boolean kind e) tt
    by_tests false true c d e = subst IsType (kind_same Bigint kind e) tt
    by_tests false false true d e = subst IsType (kind_same Varchar kind e) tt
    by_tests false false false true e = subst IsType (kind_same Date kind e) tt
    by_tests false false false false e = decimal_named text kind e
