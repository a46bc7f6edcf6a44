-- Calls and casts of values that fit their types give values that fit the type of the call or cast.
use Rattle.std.proofs.Common.{◌≡◌, ℕ, ◌+◌, ◌++◌, ◌+ℤ◌, List, Bool, true, false, if◌then◌else◌, Option, Some, None, ℤ, pos, refl}
use Rattle.std.specs.Prelude.{Ok, Err, neg_ℤ, nat_le, length, ◌*ℤ◌, ◌||◌}
use Rattle.std.specs.Ordering.{int_eq}
use Rattle.std.specs.Prelude.{int_div, int_rem, unsigned_abs, ◌&&◌, ◌-ℤ◌}
use Rattle.decimals.specs.Arithmetic.{Parts, difference_of, has_digits, is_decimal_type, product_of, product_precision, sum_of, sum_precision, sum_scale}
use Rattle.scalar_texts.specs.Numbers.{has_64_bits}
use Rattle.scalar_texts.specs.Dates.{CalendarDay, has_date, nth_day}
use Rattle.sql_values.specs.declared.types.SqlType.{SqlType}
use Rattle.sql_values.specs.declared.types.SqlType.TheVariants as type
use Rattle.sql_values.specs.declared.value.Value.{Value}
use Rattle.sql_values.specs.declared.value.Value.TheVariants.{Null, Boolean, Bigint, Decimal, Varchar, Date}
use Rattle.sql_values.specs.declared.fail.Fail.{Fail}
use Rattle.sql_values.specs.declared.fail.Fail.TheVariants.{DivisionByZero, OutOfRange, TextTooLong}
use Rattle.sql_values.specs.Blocks.{fits}
use Rattle.sql_values.specs.Order.{value_cmp}
use Rattle.sql_values.specs.Texts.{longest_text}
use Rattle.sql_functions.specs.declared.name.CallName.{CallName}
use Rattle.sql_functions.specs.declared.name.CallName.TheVariants as call
use Rattle.sql_functions.specs.Outcomes.{Outcome, GivesType}
use Rattle.sql_functions.specs.Truth.{is_null, truth_not}
use Rattle.sql_functions.specs.Comparison.{compared, ordering_meets}
use Rattle.sql_functions.specs.Bigints.{bigint, bigint_difference, bigint_product, bigint_quotient, bigint_remainder, bigint_sum}
use Rattle.sql_functions.specs.DecimalNumbers.{decimal_difference, decimal_parts, decimal_product, decimal_sum, from_units, of_two, opposite_of as opposite_of_parts, parts_product}
use Rattle.sql_functions.specs.Arithmetic.{of_bigints, of_numbers, opposite_of}
use Rattle.sql_functions.specs.TextCalls.{concat_of, length_of}
use Rattle.sql_functions.specs.DateCalls.{add_days_of, days_between_of, part_of}
use Rattle.sql_functions.specs.Like.{like_of}
use Rattle.sql_functions.specs.Calls.{binary_of, unary_of}
use Rattle.sql_functions.specs.CallTypes.{call_type, product_type, sum_type}

pub null_fits : (k : SqlType) → fits k Null ≡ true
null_fits type.Boolean = refl
null_fits type.Bigint = refl
null_fits (type.Decimal p s) = refl
null_fits type.Varchar = refl
null_fits type.Date = refl

pub bigint_only : (k : SqlType) (n : ℤ) → fits k (Bigint n) ≡ true → k ≡ type.Bigint
bigint_only type.Boolean n h = cc
bigint_only type.Bigint n h = refl
bigint_only (type.Decimal p s) n h = cc
bigint_only type.Varchar n h = cc
bigint_only type.Date n h = cc

pub date_only : (k : SqlType) (n : ℤ) → fits k (Date n) ≡ true → k ≡ type.Date
date_only type.Boolean n h = cc
date_only type.Bigint n h = cc
date_only (type.Decimal p s) n h = cc
date_only type.Varchar n h = cc
date_only type.Date n h = refl

pub boolean_only : (k : SqlType) (b : Bool) → fits k (Boolean b) ≡ true → k ≡ type.Boolean
boolean_only type.Boolean b h = refl
boolean_only type.Bigint b h = cc
boolean_only (type.Decimal p s) b h = cc
boolean_only type.Varchar b h = cc
boolean_only type.Date b h = cc

pub decimal_only : (k : SqlType) (n : ℤ) → fits k (Decimal n) ≡ true → (p : ℕ) × (s : ℕ) × (k ≡ type.Decimal p s)
decimal_only type.Boolean n h = cc
decimal_only type.Bigint n h = cc
decimal_only (type.Decimal p s) n h = (p, s, refl)
decimal_only type.Varchar n h = cc
decimal_only type.Date n h = cc

-- bigints
pub bigint_or_failure : (b : Bool) (z : ℤ) (fail : Fail) → GivesType type.Bigint (if b then Ok (Bigint z) else Err fail)
bigint_or_failure true z fail = refl
bigint_or_failure false z fail = tt

bigint_fits : (z : ℤ) → GivesType type.Bigint (bigint z)
bigint_fits z = bigint_or_failure (has_64_bits z) z OutOfRange

unless_zero : (b : Bool) (z : ℤ) → GivesType type.Bigint (if b then Err DivisionByZero else bigint z)
unless_zero true z = tt
unless_zero false z = bigint_fits z

bigints_fit : (operation : ℤ → ℤ → Outcome) → ((a b : ℤ) → GivesType type.Bigint (operation a b)) → (v w : Value) → GivesType type.Bigint (of_bigints operation v w)
bigints_fit operation each (Bigint a) (Bigint b) = each a b
bigints_fit operation each v w = refl

-- decimals
units_fit : (p s : ℕ) (units : Option ℤ) → GivesType (type.Decimal p s) (from_units units)
units_fit p s (Some z) = refl
units_fit p s None = tt

two_fit : (p s : ℕ) (operation : Parts → Parts → Outcome) → ((x y : Parts) → GivesType (type.Decimal p s) (operation x y)) → (x y : Option Parts) → GivesType (type.Decimal p s) (of_two operation x y)
two_fit p s operation each (Some x) (Some y) = each x y
two_fit p s operation each (Some x) None = refl
two_fit p s operation each None (Some y) = refl
two_fit p s operation each None None = refl

sums_fit : (p s q r : ℕ) (a b : ℤ) → GivesType (sum_type (type.Decimal p s) (type.Decimal q r)) (decimal_sum (type.Decimal p s) (type.Decimal q r) a b)
sums_fit p s q r a b =
    let m = sum_precision p s q r in
    let n = sum_scale s r in
    two_fit m n (λ x y. from_units (sum_of x y)) (λ x y. units_fit m n (sum_of x y)) (decimal_parts (type.Decimal p s) a) (decimal_parts (type.Decimal q r) b)

differences_fit : (p s q r : ℕ) (a b : ℤ) → GivesType (sum_type (type.Decimal p s) (type.Decimal q r)) (decimal_difference (type.Decimal p s) (type.Decimal q r) a b)
differences_fit p s q r a b =
    let m = sum_precision p s q r in
    let n = sum_scale s r in
    two_fit m n (λ x y. from_units (difference_of x y)) (λ x y. units_fit m n (difference_of x y)) (decimal_parts (type.Decimal p s) a) (decimal_parts (type.Decimal q r) b)

scaled_product : (b : Bool) (p s : ℕ) (units : Option ℤ) → GivesType (if b then type.Decimal p s else type.Bigint) (if b then from_units units else Ok Null)
scaled_product true p s units = units_fit p s units
scaled_product false p s units = refl

product_cases : (c d : Bool) (p s q r : ℕ) (a b : ℤ) → GivesType (product_type (type.Decimal p s) (type.Decimal q r)) (of_two parts_product (if c then Some (a, p, s) else None) (if d then Some (b, q, r) else None))
product_cases true true p s q r a b = scaled_product (nat_le (s + r) 38) (product_precision p q) (s + r) (product_of (a, p, s) (b, q, r))
product_cases true false p s q r a b = null_fits (product_type (type.Decimal p s) (type.Decimal q r))
product_cases false true p s q r a b = null_fits (product_type (type.Decimal p s) (type.Decimal q r))
product_cases false false p s q r a b = null_fits (product_type (type.Decimal p s) (type.Decimal q r))

products_fit : (p s q r : ℕ) (a b : ℤ) → GivesType (product_type (type.Decimal p s) (type.Decimal q r)) (decimal_product (type.Decimal p s) (type.Decimal q r) a b)
products_fit p s q r a b = product_cases (is_decimal_type p s && has_digits p a) (is_decimal_type q r && has_digits q b) p s q r a b

-- numbers of both kinds
numbers_fit : (bigints : ℤ → ℤ → Outcome) (decimals : SqlType → SqlType → ℤ → ℤ → Outcome) (kind : SqlType → SqlType → SqlType)
    → ((a b : ℤ) → GivesType (kind type.Bigint type.Bigint) (bigints a b))
    → ((p s q r : ℕ) (a b : ℤ) → GivesType (kind (type.Decimal p s) (type.Decimal q r)) (decimals (type.Decimal p s) (type.Decimal q r) a b))
    → (k l : SqlType) (v w : Value) → fits k v ≡ true → fits l w ≡ true → GivesType (kind k l) (of_numbers bigints (decimals k l) v w)
numbers_fit bigints decimals kind whole exact k l (Bigint a) (Bigint b) h j = rw (bigint_only k a h, bigint_only l b j) (whole a b)
numbers_fit bigints decimals kind whole exact k l (Decimal a) (Decimal b) h j =
    let d = decimal_only k a h in
    let e = decimal_only l b j in
    rw (d.2, e.2) (exact d.0 d.1 e.0 e.1 a b)
numbers_fit bigints decimals kind whole exact k l v w h j = null_fits (kind k l)

opposite_cases : (b : Bool) (p s : ℕ) (a : ℤ) → GivesType (type.Decimal p s) (opposite_of_parts (if b then Some (a, p, s) else None))
opposite_cases true p s a = refl
opposite_cases false p s a = refl

opposite_fits : (k : SqlType) (v : Value) → fits k v ≡ true → GivesType k (opposite_of k v)
opposite_fits k (Bigint n) h = rw (bigint_only k n h) (bigint_fits (neg_ℤ n))
opposite_fits k (Decimal z) h =
    let d = decimal_only k z h in
    rw d.2 (opposite_cases (is_decimal_type d.0 d.1 && has_digits d.0 z) d.0 d.1 z)
opposite_fits k v h = null_fits k

-- the other calls
not_fits : (v : Value) → fits type.Boolean (truth_not v) ≡ true
not_fits (Boolean b) = refl
not_fits v = refl

truth_or_null : (b c : Bool) → fits type.Boolean (if b then Null else Boolean c) ≡ true
truth_or_null true c = refl
truth_or_null false c = refl

compared_fits : (name : CallName) (v w : Value) → fits type.Boolean (compared name v w) ≡ true
compared_fits name v w = truth_or_null (is_null v || is_null w) (ordering_meets name (value_cmp v w))

length_fits : (v : Value) → fits type.Bigint (length_of v) ≡ true
length_fits (Varchar t) = refl
length_fits v = refl

number_or_null : (b : Bool) (z : ℤ) → fits type.Bigint (if b then Bigint z else Null) ≡ true
number_or_null true z = refl
number_or_null false z = refl

part_fits : (part : CalendarDay → ℕ) (v : Value) → fits type.Bigint (part_of part v) ≡ true
part_fits part (Date day) = number_or_null (has_date day) (pos (part (nth_day (unsigned_abs (day +ℤ pos 719_162)))))
part_fits part v = refl

like_fits : (v w : Value) → fits type.Boolean (like_of v w) ≡ true
like_fits (Varchar t) (Varchar p) = refl
like_fits v w = refl

text_unless : (b : Bool) (t : List ℕ) → GivesType type.Varchar (if b then Ok (Varchar t) else Err TextTooLong)
text_unless true t = refl
text_unless false t = tt

concat_fits : (v w : Value) → GivesType type.Varchar (concat_of v w)
concat_fits (Varchar a) (Varchar b) = text_unless (nat_le (length a + length b) longest_text) (a ++ b)
concat_fits v w = refl

day_unless : (b : Bool) (z : ℤ) → GivesType type.Date (if b then Ok (Date z) else Err OutOfRange)
day_unless true z = refl
day_unless false z = tt

add_days_fits : (v w : Value) → GivesType type.Date (add_days_of v w)
add_days_fits (Date a) (Bigint n) = day_unless (has_date (a +ℤ n)) (a +ℤ n)
add_days_fits v w = refl

days_between_fits : (v w : Value) → fits type.Bigint (days_between_of v w) ≡ true
days_between_fits (Date a) (Date b) = refl
days_between_fits v w = refl

-- calls of one argument and of two
pub unary_fits : (name : CallName) (k : SqlType) (v : Value) → fits k v ≡ true → GivesType (call_type name k type.Boolean) (unary_of name k v)
unary_fits call.Neg k v h = opposite_fits k v h
unary_fits call.IsNull k v h = refl
unary_fits call.Not k v h = not_fits v
unary_fits call.Length k v h = length_fits v
unary_fits call.Year k v h = part_fits (λ d. d.year) v
unary_fits call.Month k v h = part_fits (λ d. d.month) v
unary_fits call.Day k v h = part_fits (λ d. d.day) v
unary_fits name k v h = null_fits (call_type name k type.Boolean)

pub binary_fits : (name : CallName) (k l : SqlType) (v w : Value) → fits k v ≡ true → fits l w ≡ true → GivesType (call_type name k l) (binary_of name k l v w)
binary_fits call.Add k l v w h j = numbers_fit bigint_sum decimal_sum sum_type (λ a b. bigint_fits (a +ℤ b)) sums_fit k l v w h j
binary_fits call.Subtract k l v w h j = numbers_fit bigint_difference decimal_difference sum_type (λ a b. bigint_fits (a -ℤ b)) differences_fit k l v w h j
binary_fits call.Multiply k l v w h j = numbers_fit bigint_product decimal_product product_type (λ a b. bigint_fits (a *ℤ b)) products_fit k l v w h j
binary_fits call.Divide k l v w h j = bigints_fit bigint_quotient (λ a b. unless_zero (int_eq b (pos 0)) (int_div a b)) v w
binary_fits call.Modulo k l v w h j = bigints_fit bigint_remainder (λ a b. unless_zero (int_eq b (pos 0)) (int_rem a b)) v w
binary_fits call.Equal k l v w h j = compared_fits call.Equal v w
binary_fits call.Unequal k l v w h j = compared_fits call.Unequal v w
binary_fits call.Less k l v w h j = compared_fits call.Less v w
binary_fits call.LessEqual k l v w h j = compared_fits call.LessEqual v w
binary_fits call.Greater k l v w h j = compared_fits call.Greater v w
binary_fits call.GreaterEqual k l v w h j = compared_fits call.GreaterEqual v w
binary_fits call.IsDistinct k l v w h j = refl
binary_fits call.Like k l v w h j = like_fits v w
binary_fits call.Concat k l v w h j = concat_fits v w
binary_fits call.AddDays k l v w h j = add_days_fits v w
binary_fits call.DaysBetween k l v w h j = days_between_fits v w
binary_fits name k l v w h j = null_fits (call_type name k l)
