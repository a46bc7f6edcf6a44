-- Calls and casts of values that are not NULL never give NULL: a value, or a failure.
use Rattle.std.proofs.Common.{◌≡◌, ℕ, ◌+◌, ◌++◌, ◌+ℤ◌, List, Bool, true, false, if◌then◌else◌, Option, Some, None, ℤ, pos, refl}
use Rattle.std.specs.Prelude.{◌≢◌, Ok, Err, neg_ℤ, nat_le, length, ◌&&◌, ◌||◌, ◌*ℤ◌, option_map, int_div, int_rem, ◌-ℤ◌}
use Rattle.std.specs.Ordering.{int_eq}
use Rattle.decimals.specs.Arithmetic.{checked_parts, difference_of, is_decimal_type, product_of, rescaled, sum_of}
use Rattle.scalar_texts.specs.Booleans.{boolean_of}
use Rattle.scalar_texts.specs.Numbers.{bigint_of, has_64_bits}
use Rattle.scalar_texts.specs.Decimals.{decimal_of}
use Rattle.scalar_texts.specs.Dates.{CalendarDay, date_of, has_date}
use Rattle.sql_values.specs.declared.types.SqlType.{SqlType}
use Rattle.sql_values.specs.declared.types.SqlType.TheVariants as type
use Rattle.sql_values.specs.declared.value.Value.{Value}
use Rattle.sql_values.specs.declared.value.Value.TheVariants.{Null, Boolean, Bigint, Decimal, Varchar, Date}
use Rattle.sql_values.specs.declared.fail.Fail.{Fail}
use Rattle.sql_values.specs.declared.fail.Fail.TheVariants.{DivisionByZero, OutOfRange, TextTooLong}
use Rattle.sql_values.specs.Order.{value_cmp}
use Rattle.sql_values.specs.Texts.{longest_text, scale_of, value_of_text}
use Rattle.sql_values.specs.Types.{IsType, has_type}
use Rattle.sql_functions.specs.declared.name.CallName.{CallName}
use Rattle.sql_functions.specs.declared.name.CallName.TheVariants as call
use Rattle.sql_functions.specs.Outcomes.{Outcome}
use Rattle.sql_functions.specs.Truth.{is_null, truth_not}
use Rattle.sql_functions.specs.Comparison.{compared, ordering_meets}
use Rattle.sql_functions.specs.Bigints.{bigint, bigint_difference, bigint_product, bigint_quotient, bigint_remainder, bigint_sum}
use Rattle.sql_functions.specs.DecimalNumbers.{decimal_difference, decimal_product, decimal_sum, from_units}
use Rattle.sql_functions.specs.Arithmetic.{of_bigints, of_numbers, opposite_of}
use Rattle.sql_functions.specs.TextCalls.{concat_of, joined, length_of}
use Rattle.sql_functions.specs.DateCalls.{add_days_of, date, days_between_of, part_of}
use Rattle.sql_functions.specs.Like.{like_of}
use Rattle.sql_functions.specs.Calls.{binary_of, unary_of}
use Rattle.sql_functions.specs.Casts.{bigint_of_units, cast_of, from_text, to_bigint, to_decimal}
use Rattle.sql_functions.specs.CallTypes.{are_factors, are_numbers, can_cast, is_bigint, is_boolean, is_date, is_number, is_varchar, takes_one, takes_two}
use Rattle.sql_functions.proofs.TypeLemmas.{both_true}
use Rattle.type_laws.proofs.DigitLemmas.{parts_are, type_of_bounds}

-- a value of a type that is not NULL has the variant of the type
boolean_in : (v : Value) → has_type type.Boolean v ≡ true → v ≢ Null → (b : Bool) × (v ≡ Boolean b)
boolean_in Null h n = absurd (n refl)
boolean_in (Boolean b) h n = (b, refl)
boolean_in v h n = cc

bigint_in : (v : Value) → has_type type.Bigint v ≡ true → v ≢ Null → (z : ℤ) × (v ≡ Bigint z)
bigint_in Null h n = absurd (n refl)
bigint_in (Bigint z) h n = (z, refl)
bigint_in v h n = cc

decimal_in : (p s : ℕ) (v : Value) → has_type (type.Decimal p s) v ≡ true → v ≢ Null → (z : ℤ) × (v ≡ Decimal z) × (checked_parts z p s ≡ Some (z, p, s))
decimal_in p s Null h n = absurd (n refl)
decimal_in p s (Decimal z) h n = (z, refl, parts_are z p s h)
decimal_in p s v h n = cc

varchar_in : (v : Value) → has_type type.Varchar v ≡ true → v ≢ Null → (text : List ℕ) × (v ≡ Varchar text)
varchar_in Null h n = absurd (n refl)
varchar_in (Varchar text) h n = (text, refl)
varchar_in v h n = cc

date_in : (v : Value) → has_type type.Date v ≡ true → v ≢ Null → (day : ℤ) × (v ≡ Date day) × (has_date day ≡ true)
date_in Null h n = absurd (n refl)
date_in (Date day) h n = (day, refl, h)
date_in v h n = cc

-- the outcomes of the operations
value_or_failure : (b : Bool) (v : Value) (fail : Fail) → v ≢ Null → (if b then Ok v else Err fail) ≢ Ok Null
value_or_failure true v fail n e = n (cc)
value_or_failure false v fail n e = cc

bigint_gives : (z : ℤ) → bigint z ≢ Ok Null
bigint_gives z = value_or_failure (has_64_bits z) (Bigint z) OutOfRange (λ e. cc)

unless_zero : (b : Bool) (z : ℤ) → (if b then Err DivisionByZero else bigint z) ≢ Ok Null
unless_zero true z e = cc
unless_zero false z e = bigint_gives z e

pub ok_gives : (v : Value) → v ≢ Null → let outcome : Outcome = Ok v in outcome ≢ Ok Null
ok_gives v n e = n cc

units_give : (units : Option ℤ) → from_units units ≢ Ok Null
units_give (Some z) e = cc
units_give None e = cc

-- numbers
neg_gives : (k : SqlType) (v : Value) → is_number k ≡ true → has_type k v ≡ true → v ≢ Null → opposite_of k v ≢ Ok Null
neg_gives type.Bigint v t h n = let x = bigint_in v h n in rw x.1 (bigint_gives (neg_ℤ x.0))
neg_gives (type.Decimal p s) v t h n = let x = decimal_in p s v h n in rw (x.1, x.2) (λ e. cc)
neg_gives k v t h n = cc

bigints_give : (operation : ℤ → ℤ → Outcome) → ((a b : ℤ) → operation a b ≢ Ok Null) → (v w : Value)
    → has_type type.Bigint v ≡ true → has_type type.Bigint w ≡ true → v ≢ Null → w ≢ Null → of_bigints operation v w ≢ Ok Null
bigints_give operation each v w h j n m =
    let x = bigint_in v h n in
    let y = bigint_in w j m in
    rw (x.1, y.1) (each x.0 y.0)

-- bigint operands of a call that takes these alone
of_bigint_types : (operation : ℤ → ℤ → Outcome) → ((a b : ℤ) → operation a b ≢ Ok Null) → (k l : SqlType) (v w : Value) → (is_bigint k && is_bigint l) ≡ true
    → has_type k v ≡ true → has_type l w ≡ true → v ≢ Null → w ≢ Null → of_bigints operation v w ≢ Ok Null
of_bigint_types operation each type.Bigint type.Bigint v w t h j n m = bigints_give operation each v w h j n m
of_bigint_types operation each k l v w t h j n m = cc

numbers_give : (bigints : ℤ → ℤ → Outcome) (decimals : SqlType → SqlType → ℤ → ℤ → Outcome) → ((a b : ℤ) → bigints a b ≢ Ok Null)
    → (k l : SqlType) → ((p s q r : ℕ) (a b : ℤ) → k ≡ type.Decimal p s → l ≡ type.Decimal q r → checked_parts a p s ≡ Some (a, p, s) → checked_parts b q r ≡ Some (b, q, r) → decimals (type.Decimal p s) (type.Decimal q r) a b ≢ Ok Null)
    → (v w : Value) → are_numbers k l ≡ true → has_type k v ≡ true → has_type l w ≡ true → v ≢ Null → w ≢ Null → of_numbers bigints (decimals k l) v w ≢ Ok Null
numbers_give bigints decimals whole type.Bigint type.Bigint exact v w t h j n m =
    let x = bigint_in v h n in
    let y = bigint_in w j m in
    rw (x.1, y.1) (whole x.0 y.0)
numbers_give bigints decimals whole (type.Decimal p s) (type.Decimal q r) exact v w t h j n m =
    let x = decimal_in p s v h n in
    let y = decimal_in q r w j m in
    rw (x.1, y.1) (exact p s q r x.0 y.0 refl refl x.2 y.2)
numbers_give bigints decimals whole k l exact v w t h j n m = cc

sums_give : (p s q r : ℕ) (a b : ℤ) → checked_parts a p s ≡ Some (a, p, s) → checked_parts b q r ≡ Some (b, q, r) → decimal_sum (type.Decimal p s) (type.Decimal q r) a b ≢ Ok Null
sums_give p s q r a b e f = rw (e, f) (units_give (sum_of (a, p, s) (b, q, r)))

differences_give : (p s q r : ℕ) (a b : ℤ) → checked_parts a p s ≡ Some (a, p, s) → checked_parts b q r ≡ Some (b, q, r) → decimal_difference (type.Decimal p s) (type.Decimal q r) a b ≢ Ok Null
differences_give p s q r a b e f = rw (e, f) (units_give (difference_of (a, p, s) (b, q, r)))

products_give : (p s q r : ℕ) (a b : ℤ) → nat_le (s + r) 38 ≡ true → checked_parts a p s ≡ Some (a, p, s) → checked_parts b q r ≡ Some (b, q, r) → decimal_product (type.Decimal p s) (type.Decimal q r) a b ≢ Ok Null
products_give p s q r a b within e f = rw (e, f, within) (units_give (product_of (a, p, s) (b, q, r)))

multiply_gives : (k l : SqlType) (v w : Value) → are_factors k l ≡ true → has_type k v ≡ true → has_type l w ≡ true → v ≢ Null → w ≢ Null
    → of_numbers bigint_product (decimal_product k l) v w ≢ Ok Null
multiply_gives k l v w t h j n m =
    let both = both_true (are_numbers k l) (nat_le (scale_of k + scale_of l) 38) t in
    numbers_give bigint_product decimal_product (λ a b. bigint_gives (a *ℤ b)) k l
    (λ p s q r a b e f. products_give p s q r a b (rw (e, f) at both.1)) v w both.0 h j n m

-- truths
known_gives : (v w : Value) (c : Bool) → v ≢ Null → w ≢ Null → (if is_null v || is_null w then Null else Boolean c) ≢ Null
known_gives Null w c n m e = n refl
known_gives v Null c n m e = m refl
known_gives v w c n m e = cc

compared_gives : (name : CallName) (v w : Value) → v ≢ Null → w ≢ Null → compared name v w ≢ Null
compared_gives name v w n m = known_gives v w (ordering_meets name (value_cmp v w)) n m

not_gives : (k : SqlType) (v : Value) → is_boolean k ≡ true → has_type k v ≡ true → v ≢ Null → truth_not v ≢ Null
not_gives type.Boolean v t h n = let x = boolean_in v h n in rw x.1 (λ e. cc)
not_gives k v t h n = cc

-- texts
length_gives : (k : SqlType) (v : Value) → is_varchar k ≡ true → has_type k v ≡ true → v ≢ Null → length_of v ≢ Null
length_gives type.Varchar v t h n = let x = varchar_in v h n in rw x.1 (λ e. cc)
length_gives k v t h n = cc

like_gives : (k l : SqlType) (v w : Value) → (is_varchar k && is_varchar l) ≡ true → has_type k v ≡ true → has_type l w ≡ true → v ≢ Null → w ≢ Null → like_of v w ≢ Null
like_gives type.Varchar type.Varchar v w t h j n m =
    let x = varchar_in v h n in
    let y = varchar_in w j m in
    rw (x.1, y.1) (λ e. cc)
like_gives k l v w t h j n m = cc

joined_gives : (a b : List ℕ) → joined a b ≢ Ok Null
joined_gives a b = value_or_failure (nat_le (length a + length b) longest_text) (Varchar (a ++ b)) TextTooLong (λ e. cc)

concat_gives : (k l : SqlType) (v w : Value) → (is_varchar k && is_varchar l) ≡ true → has_type k v ≡ true → has_type l w ≡ true → v ≢ Null → w ≢ Null → concat_of v w ≢ Ok Null
concat_gives type.Varchar type.Varchar v w t h j n m =
    let x = varchar_in v h n in
    let y = varchar_in w j m in
    rw (x.1, y.1) (joined_gives x.0 y.0)
concat_gives k l v w t h j n m = cc

-- days
part_gives : (part : CalendarDay → ℕ) (k : SqlType) (v : Value) → is_date k ≡ true → has_type k v ≡ true → v ≢ Null → part_of part v ≢ Null
part_gives part type.Date v t h n = let x = date_in v h n in rw (x.1, x.2) (λ e. cc)
part_gives part k v t h n = cc

date_gives : (z : ℤ) → date z ≢ Ok Null
date_gives z = value_or_failure (has_date z) (Date z) OutOfRange (λ e. cc)

add_days_gives : (k l : SqlType) (v w : Value) → (is_date k && is_bigint l) ≡ true → has_type k v ≡ true → has_type l w ≡ true → v ≢ Null → w ≢ Null → add_days_of v w ≢ Ok Null
add_days_gives type.Date type.Bigint v w t h j n m =
    let x = date_in v h n in
    let y = bigint_in w j m in
    rw (x.1, y.1) (date_gives (x.0 +ℤ y.0))
add_days_gives k l v w t h j n m = cc

days_between_gives : (k l : SqlType) (v w : Value) → (is_date k && is_date l) ≡ true → has_type k v ≡ true → has_type l w ≡ true → v ≢ Null → w ≢ Null → days_between_of v w ≢ Null
days_between_gives type.Date type.Date v w t h j n m =
    let x = date_in v h n in
    let y = date_in w j m in
    rw (x.1, y.1) (λ e. cc)
days_between_gives k l v w t h j n m = cc

-- calls of one argument and of two
pub unary_gives_value : (name : CallName) (k : SqlType) (v : Value) → takes_one name k ≡ true → has_type k v ≡ true → v ≢ Null → unary_of name k v ≢ Ok Null
unary_gives_value call.Neg k v t h n = neg_gives k v t h n
unary_gives_value call.IsNull k v t h n = λ e. cc
unary_gives_value call.Not k v t h n = ok_gives _ (not_gives k v t h n)
unary_gives_value call.Length k v t h n = ok_gives _ (length_gives k v t h n)
unary_gives_value call.Year k v t h n = ok_gives _ (part_gives (λ d. d.year) k v t h n)
unary_gives_value call.Month k v t h n = ok_gives _ (part_gives (λ d. d.month) k v t h n)
unary_gives_value call.Day k v t h n = ok_gives _ (part_gives (λ d. d.day) k v t h n)
unary_gives_value name k v t h n = cc

pub binary_gives_value : (name : CallName) (k l : SqlType) (v w : Value) → takes_two name k l ≡ true → has_type k v ≡ true → has_type l w ≡ true → v ≢ Null → w ≢ Null → binary_of name k l v w ≢ Ok Null
binary_gives_value call.Add k l v w t h j n m =
    numbers_give bigint_sum decimal_sum (λ a b. bigint_gives (a +ℤ b)) k l (λ p s q r a b e f. sums_give p s q r a b) v w t h j n m
binary_gives_value call.Subtract k l v w t h j n m =
    numbers_give bigint_difference decimal_difference (λ a b. bigint_gives (a -ℤ b)) k l (λ p s q r a b e f. differences_give p s q r a b) v w t h j n m
binary_gives_value call.Multiply k l v w t h j n m = multiply_gives k l v w t h j n m
binary_gives_value call.Divide k l v w t h j n m = of_bigint_types bigint_quotient (λ a b. unless_zero (int_eq b (pos 0)) (int_div a b)) k l v w t h j n m
binary_gives_value call.Modulo k l v w t h j n m = of_bigint_types bigint_remainder (λ a b. unless_zero (int_eq b (pos 0)) (int_rem a b)) k l v w t h j n m
binary_gives_value call.Equal k l v w t h j n m = ok_gives _ (compared_gives call.Equal v w n m)
binary_gives_value call.Unequal k l v w t h j n m = ok_gives _ (compared_gives call.Unequal v w n m)
binary_gives_value call.Less k l v w t h j n m = ok_gives _ (compared_gives call.Less v w n m)
binary_gives_value call.LessEqual k l v w t h j n m = ok_gives _ (compared_gives call.LessEqual v w n m)
binary_gives_value call.Greater k l v w t h j n m = ok_gives _ (compared_gives call.Greater v w n m)
binary_gives_value call.GreaterEqual k l v w t h j n m = ok_gives _ (compared_gives call.GreaterEqual v w n m)
binary_gives_value call.IsDistinct k l v w t h j n m = λ e. cc
binary_gives_value call.Like k l v w t h j n m = ok_gives _ (like_gives k l v w t h j n m)
binary_gives_value call.Concat k l v w t h j n m = concat_gives k l v w t h j n m
binary_gives_value call.AddDays k l v w t h j n m = add_days_gives k l v w t h j n m
binary_gives_value call.DaysBetween k l v w t h j n m = ok_gives _ (days_between_gives k l v w t h j n m)
binary_gives_value name k l v w t h j n m = cc

-- casts
made_gives : {A : Type 0} (make : A → Value) (o : Option A) → ((x : A) → make x ≢ Null) → from_text (option_map make o) ≢ Ok Null
made_gives make (Some x) each e = each x cc
made_gives make None each e = cc

text_gives : (b : Bool) (text : List ℕ) → from_text (if b then Some (Varchar text) else None) ≢ Ok Null
text_gives true text e = cc
text_gives false text e = cc

read_gives : (k : SqlType) (text : List ℕ) → from_text (value_of_text k text) ≢ Ok Null
read_gives type.Boolean text = made_gives Boolean (boolean_of text) (λ x e. cc)
read_gives type.Bigint text = made_gives Bigint (bigint_of text) (λ x e. cc)
read_gives (type.Decimal p s) text = made_gives Decimal (decimal_of p s text) (λ x e. cc)
read_gives type.Varchar text = text_gives (nat_le (length text) longest_text) text
read_gives type.Date text = made_gives Date (date_of text) (λ x e. cc)

units_to_bigint_give : (units : Option ℤ) → bigint_of_units units ≢ Ok Null
units_to_bigint_give (Some z) = value_or_failure (has_64_bits z) (Bigint z) OutOfRange (λ e. cc)
units_to_bigint_give None = λ e. cc

to_bigint_gives : (k : SqlType) (v : Value) → is_number k ≡ true → has_type k v ≡ true → v ≢ Null → to_bigint k v ≢ Ok Null
to_bigint_gives type.Bigint v t h n = let x = bigint_in v h n in rw x.1 (λ e. cc)
to_bigint_gives (type.Decimal p s) v t h n = let x = decimal_in p s v h n in rw (x.1, x.2) (units_to_bigint_give (rescaled (x.0, p, s) 38 0))
to_bigint_gives k v t h n = cc

to_decimal_gives : (p s : ℕ) (k : SqlType) (v : Value) → is_number k ≡ true → has_type k v ≡ true → v ≢ Null → to_decimal p s k v ≢ Ok Null
to_decimal_gives p s type.Bigint v t h n = let x = bigint_in v h n in rw x.1 (units_give (rescaled (x.0, 19, 0) p s))
to_decimal_gives p s (type.Decimal q r) v t h n = let x = decimal_in q r v h n in rw (x.1, x.2) (units_give (rescaled (x.0, q, r) p s))
to_decimal_gives p s k v t h n = cc

-- to each type: a text is read, and any other value is of the type that is cast from
boolean_cast_gives : (k : SqlType) (v : Value) → can_cast k type.Boolean ≡ true → has_type k v ≡ true → v ≢ Null → cast_of k type.Boolean v ≢ Ok Null
boolean_cast_gives k Null c h n = absurd (n refl)
boolean_cast_gives k (Varchar text) c h n = read_gives type.Boolean text
boolean_cast_gives k (Boolean b) c h n = λ e. cc
boolean_cast_gives type.Boolean v c h n = cc
boolean_cast_gives k v c h n = cc

date_cast_gives : (k : SqlType) (v : Value) → can_cast k type.Date ≡ true → has_type k v ≡ true → v ≢ Null → cast_of k type.Date v ≢ Ok Null
date_cast_gives k Null c h n = absurd (n refl)
date_cast_gives k (Varchar text) c h n = read_gives type.Date text
date_cast_gives k (Date day) c h n = λ e. cc
date_cast_gives type.Date v c h n = cc
date_cast_gives k v c h n = cc

varchar_cast_gives : (k : SqlType) (v : Value) → v ≢ Null → cast_of k type.Varchar v ≢ Ok Null
varchar_cast_gives k Null n = absurd (n refl)
varchar_cast_gives k v n = λ e. cc

bigint_cast_gives : (k : SqlType) (v : Value) → can_cast k type.Bigint ≡ true → has_type k v ≡ true → v ≢ Null → cast_of k type.Bigint v ≢ Ok Null
bigint_cast_gives k Null c h n = absurd (n refl)
bigint_cast_gives k (Varchar text) c h n = read_gives type.Bigint text
bigint_cast_gives type.Bigint v c h n = to_bigint_gives type.Bigint v refl h n
bigint_cast_gives (type.Decimal p s) v c h n = to_bigint_gives (type.Decimal p s) v refl h n
bigint_cast_gives k v c h n = cc

decimal_cast_gives : (k : SqlType) (p s : ℕ) (v : Value) → is_decimal_type p s ≡ true → can_cast k (type.Decimal p s) ≡ true → has_type k v ≡ true → v ≢ Null → cast_of k (type.Decimal p s) v ≢ Ok Null
decimal_cast_gives k p s Null is c h n = absurd (n refl)
decimal_cast_gives k p s (Varchar text) is c h n = read_gives (type.Decimal p s) text
decimal_cast_gives type.Bigint p s v is c h n = rw is (to_decimal_gives p s type.Bigint v refl h n)
decimal_cast_gives (type.Decimal q r) p s v is c h n = rw is (to_decimal_gives p s (type.Decimal q r) v refl h n)
decimal_cast_gives k p s v is c h n = cc

pub cast_gives_value : (from to : SqlType) (v : Value) → IsType to → can_cast from to ≡ true → has_type from v ≡ true → v ≢ Null → cast_of from to v ≢ Ok Null
cast_gives_value from type.Boolean v is c h n = boolean_cast_gives from v c h n
cast_gives_value from type.Bigint v is c h n = bigint_cast_gives from v c h n
cast_gives_value from (type.Decimal p s) v is c h n = decimal_cast_gives from p s v (type_of_bounds p s is.0 is.1 is.2) c h n
cast_gives_value from type.Varchar v is c h n = varchar_cast_gives from v n
cast_gives_value from type.Date v is c h n = date_cast_gives from v c h n
