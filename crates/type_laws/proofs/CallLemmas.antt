-- Calls of values of their types give values of the type of the call.
use Rattle.std.proofs.Common.{◌≡◌, ℕ, ◌+◌, ◌≤◌, ◌^◌, ◌<◌, ◌++◌, ◌+ℤ◌, List, Bool, true, false, if◌then◌else◌, Option, Some, None, ℤ, pos, refl, arith, lit<, length-append}
use Rattle.std.specs.Prelude.{Ok, Err, neg_ℤ, nat_le, length, ◌*ℤ◌, ◌||◌, chars, is_some, int_div, int_rem, unsigned_abs, ◌-ℤ◌}
use Rattle.std.specs.Ordering.{int_eq}
use Rattle.std.proofs.lemmas.Bool.Decides.{nat_tests}
use Rattle.decimals.specs.Arithmetic.{checked_parts, difference_of, product_of, product_precision, sum_of, sum_precision, sum_scale}
use Rattle.scalar_texts.specs.Numbers.{has_64_bits}
use Rattle.scalar_texts.specs.Dates.{CalendarDay, has_date, nth_day}
use Rattle.sql_values.specs.declared.types.SqlType.{SqlType}
use Rattle.sql_values.specs.declared.types.SqlType.TheVariants as type
use Rattle.sql_values.specs.declared.value.Value.{Value}
use Rattle.sql_values.specs.declared.value.Value.TheVariants.{Null, Boolean, Bigint, Decimal, Varchar, Date}
use Rattle.sql_values.specs.declared.fail.Fail.{Fail}
use Rattle.sql_values.specs.declared.fail.Fail.TheVariants.{DivisionByZero, OutOfRange, TextTooLong}
use Rattle.sql_values.specs.Order.{value_cmp}
use Rattle.sql_values.specs.Texts.{longest_text}
use Rattle.sql_values.specs.Types.{has_type}
use Rattle.sql_values.proofs.BlockLemmas.{typed_fits}
use Rattle.sql_functions.specs.declared.name.CallName.{CallName}
use Rattle.sql_functions.specs.declared.name.CallName.TheVariants as call
use Rattle.sql_functions.specs.Outcomes.{Outcome}
use Rattle.sql_functions.specs.Truth.{is_null, truth_not}
use Rattle.sql_functions.specs.Comparison.{compared, ordering_meets}
use Rattle.sql_functions.specs.Bigints.{bigint, bigint_difference, bigint_product, bigint_quotient, bigint_remainder, bigint_sum}
use Rattle.sql_functions.specs.DecimalNumbers.{decimal_difference, decimal_product, decimal_sum, from_units}
use Rattle.sql_functions.specs.Arithmetic.{of_bigints, of_numbers, opposite_of}
use Rattle.sql_functions.specs.TextCalls.{concat_of, length_of}
use Rattle.sql_functions.specs.DateCalls.{add_days_of, days_between_of, part_of}
use Rattle.sql_functions.specs.Like.{like_of}
use Rattle.sql_functions.specs.Calls.{binary_of, unary_of}
use Rattle.sql_functions.specs.CallTypes.{call_type, product_type, sum_type}
use Rattle.sql_functions.proofs.FitLemmas.{bigint_only, decimal_only}
use Rattle.type_laws.specs.Keeps.{KeepsType}
use Rattle.type_laws.proofs.DigitLemmas.{difference_is_number, opposite_is_number, parts_are, product_is_number, sum_is_number}
use Rattle.type_laws.proofs.DayLemmas.{IsSmallDay, day_is_small, distance_has_64_bits, small_has_64_bits}
use Rattle.type_laws.proofs.LengthLemmas.{chars_within}

pub null_has_type : (k : SqlType) → has_type k Null ≡ true
null_has_type type.Boolean = refl
null_has_type type.Bigint = refl
null_has_type (type.Decimal p s) = refl
null_has_type type.Varchar = refl
null_has_type type.Date = refl

-- what is known of a value that has a type, whatever the type
pub bigint_has_64_bits : (k : SqlType) (n : ℤ) → has_type k (Bigint n) ≡ true → has_64_bits n ≡ true
bigint_has_64_bits type.Bigint n h = h
bigint_has_64_bits k n h = cc

pub text_is_short : (k : SqlType) (text : List ℕ) → has_type k (Varchar text) ≡ true → nat_le (length text) longest_text ≡ true
text_is_short type.Varchar text h = h
text_is_short k text h = cc

pub day_has_date : (k : SqlType) (day : ℤ) → has_type k (Date day) ≡ true → has_date day ≡ true
day_has_date type.Date day h = h
day_has_date k day h = cc

-- bigints
pub bigint_by : (b : Bool) (z : ℤ) (fail : Fail) → has_64_bits z ≡ b → KeepsType type.Bigint (if b then Ok (Bigint z) else Err fail)
bigint_by true z fail h = h
bigint_by false z fail h = tt

bigint_keeps : (z : ℤ) → KeepsType type.Bigint (bigint z)
bigint_keeps z = bigint_by (has_64_bits z) z OutOfRange refl

unless_zero : (b : Bool) (z : ℤ) → KeepsType type.Bigint (if b then Err DivisionByZero else bigint z)
unless_zero true z = tt
unless_zero false z = bigint_keeps z

bigints_keep : (operation : ℤ → ℤ → Outcome) → ((a b : ℤ) → KeepsType type.Bigint (operation a b)) → (v w : Value) → KeepsType type.Bigint (of_bigints operation v w)
bigints_keep operation each (Bigint a) (Bigint b) = each a b
bigints_keep operation each v w = refl

-- decimals
pub units_keep : (p s : ℕ) (units : Option ℤ) → ((z : ℤ) → units ≡ Some z → is_some (checked_parts z p s) ≡ true) → KeepsType (type.Decimal p s) (from_units units)
units_keep p s (Some z) each = each z refl
units_keep p s None each = tt

sums_keep : (p s q r : ℕ) (a b : ℤ) → is_some (checked_parts a p s) ≡ true → is_some (checked_parts b q r) ≡ true
    → KeepsType (sum_type (type.Decimal p s) (type.Decimal q r)) (decimal_sum (type.Decimal p s) (type.Decimal q r) a b)
sums_keep p s q r a b h j =
    rw (parts_are a p s h, parts_are b q r j)
    (units_keep (sum_precision p s q r) (sum_scale s r) (sum_of (a, p, s) (b, q, r)) (λ z e. sum_is_number a b z p s q r h j e))

differences_keep : (p s q r : ℕ) (a b : ℤ) → is_some (checked_parts a p s) ≡ true → is_some (checked_parts b q r) ≡ true
    → KeepsType (sum_type (type.Decimal p s) (type.Decimal q r)) (decimal_difference (type.Decimal p s) (type.Decimal q r) a b)
differences_keep p s q r a b h j =
    rw (parts_are a p s h, parts_are b q r j)
    (units_keep (sum_precision p s q r) (sum_scale s r) (difference_of (a, p, s) (b, q, r)) (λ z e. difference_is_number a b z p s q r h j e))

product_by : (c : Bool) (p s q r : ℕ) (a b : ℤ) → nat_le (s + r) 38 ≡ c → is_some (checked_parts a p s) ≡ true → is_some (checked_parts b q r) ≡ true
    → KeepsType (if c then type.Decimal (product_precision p q) (s + r) else type.Bigint) (if c then from_units (product_of (a, p, s) (b, q, r)) else Ok Null)
product_by true p s q r a b within h j =
    units_keep (product_precision p q) (s + r) (product_of (a, p, s) (b, q, r)) (λ z e. product_is_number a b z p s q r h j within e)
product_by false p s q r a b within h j = refl

products_keep : (p s q r : ℕ) (a b : ℤ) → is_some (checked_parts a p s) ≡ true → is_some (checked_parts b q r) ≡ true
    → KeepsType (product_type (type.Decimal p s) (type.Decimal q r)) (decimal_product (type.Decimal p s) (type.Decimal q r) a b)
products_keep p s q r a b h j =
    rw (parts_are a p s h, parts_are b q r j) (product_by (nat_le (s + r) 38) p s q r a b refl h j)

-- numbers of both kinds
numbers_keep : (bigints : ℤ → ℤ → Outcome) (decimals : SqlType → SqlType → ℤ → ℤ → Outcome) (kind : SqlType → SqlType → SqlType)
    → ((a b : ℤ) → KeepsType (kind type.Bigint type.Bigint) (bigints a b))
    → ((p s q r : ℕ) (a b : ℤ) → is_some (checked_parts a p s) ≡ true → is_some (checked_parts b q r) ≡ true
    → KeepsType (kind (type.Decimal p s) (type.Decimal q r)) (decimals (type.Decimal p s) (type.Decimal q r) a b))
    → (k l : SqlType) (v w : Value) → has_type k v ≡ true → has_type l w ≡ true → KeepsType (kind k l) (of_numbers bigints (decimals k l) v w)
numbers_keep bigints decimals kind whole exact k l (Bigint a) (Bigint b) h j =
    rw (bigint_only k a (typed_fits k (Bigint a) h), bigint_only l b (typed_fits l (Bigint b) j)) (whole a b)
numbers_keep bigints decimals kind whole exact k l (Decimal a) (Decimal b) h j =
    let d = decimal_only k a (typed_fits k (Decimal a) h) in
    let e = decimal_only l b (typed_fits l (Decimal b) j) in
    let left : is_some (checked_parts a d.0 d.1) ≡ true = rw d.2 at h in
    let right : is_some (checked_parts b e.0 e.1) ≡ true = rw e.2 at j in
    rw (d.2, e.2) (exact d.0 d.1 e.0 e.1 a b left right)
numbers_keep bigints decimals kind whole exact k l v w h j = null_has_type (kind k l)

opposite_keeps : (k : SqlType) (v : Value) → has_type k v ≡ true → KeepsType k (opposite_of k v)
opposite_keeps type.Bigint (Bigint n) h = bigint_keeps (neg_ℤ n)
opposite_keeps (type.Decimal p s) (Decimal z) h = rw (parts_are z p s h) (opposite_is_number z p s h)
opposite_keeps k (Bigint n) h = cc
opposite_keeps k (Decimal z) h = cc
opposite_keeps k v h = null_has_type k

-- truths
not_keeps : (v : Value) → has_type type.Boolean (truth_not v) ≡ true
not_keeps (Boolean b) = refl
not_keeps v = refl

truth_or_null : (b c : Bool) → has_type type.Boolean (if b then Null else Boolean c) ≡ true
truth_or_null true c = refl
truth_or_null false c = refl

compared_keeps : (name : CallName) (v w : Value) → has_type type.Boolean (compared name v w) ≡ true
compared_keeps name v w = truth_or_null (is_null v || is_null w) (ordering_meets name (value_cmp v w))

like_keeps : (v w : Value) → has_type type.Boolean (like_of v w) ≡ true
like_keeps (Varchar t) (Varchar p) = refl
like_keeps v w = refl

-- texts
count_has_64_bits : (n : ℕ) (text : List ℕ) → n ≤ length text → nat_le (length text) longest_text ≡ true → has_64_bits (pos n) ≡ true
count_has_64_bits n text within short =
    let top : 1_000_000 < 2 ^ 63 = lit< tt in
    let most : length text ≤ 1_000_000 = grind (arith, nat_tests) in
    grind (arith, nat_tests)

length_keeps : (k : SqlType) (v : Value) → has_type k v ≡ true → has_type type.Bigint (length_of v) ≡ true
length_keeps k (Varchar text) h = count_has_64_bits (length (chars text)) text (chars_within text) (text_is_short k text h)
length_keeps k v h = refl

joined_by : (b : Bool) (s t : List ℕ) → nat_le (length s + length t) longest_text ≡ b → KeepsType type.Varchar (if b then Ok (Varchar (s ++ t)) else Err TextTooLong)
joined_by true s t h = rw (length-append s t) h
joined_by false s t h = tt

concat_keeps : (v w : Value) → KeepsType type.Varchar (concat_of v w)
concat_keeps (Varchar s) (Varchar t) = joined_by (nat_le (length s + length t) longest_text) s t refl
concat_keeps v w = refl

-- days
part_by : (part : CalendarDay → ℕ) → ((d : CalendarDay) → IsSmallDay d → part d ≤ 9999) → (b : Bool) (day : ℤ) → has_date day ≡ b
    → has_type type.Bigint (if b then Bigint (pos (part (nth_day (unsigned_abs (day +ℤ pos 719_162))))) else Null) ≡ true
part_by part small true day h =
    let d = nth_day (unsigned_abs (day +ℤ pos 719_162)) in
    small_has_64_bits (part d) (small d (day_is_small day h))
part_by part small false day h = refl

part_keeps : (part : CalendarDay → ℕ) → ((d : CalendarDay) → IsSmallDay d → part d ≤ 9999) → (v : Value) → has_type type.Bigint (part_of part v) ≡ true
part_keeps part small (Date day) = part_by part small (has_date day) day refl
part_keeps part small v = refl

day_by : (b : Bool) (z : ℤ) → has_date z ≡ b → KeepsType type.Date (if b then Ok (Date z) else Err OutOfRange)
day_by true z h = h
day_by false z h = tt

add_days_keeps : (v w : Value) → KeepsType type.Date (add_days_of v w)
add_days_keeps (Date day) (Bigint n) = day_by (has_date (day +ℤ n)) (day +ℤ n) refl
add_days_keeps v w = refl

days_between_keeps : (k l : SqlType) (v w : Value) → has_type k v ≡ true → has_type l w ≡ true → has_type type.Bigint (days_between_of v w) ≡ true
days_between_keeps k l (Date a) (Date b) h j = distance_has_64_bits a b (day_has_date k a h) (day_has_date l b j)
days_between_keeps k l v w h j = refl

-- calls of one argument and of two
pub unary_keeps : (name : CallName) (k : SqlType) (v : Value) → has_type k v ≡ true → KeepsType (call_type name k type.Boolean) (unary_of name k v)
unary_keeps call.Neg k v h = opposite_keeps k v h
unary_keeps call.IsNull k v h = refl
unary_keeps call.Not k v h = not_keeps v
unary_keeps call.Length k v h = length_keeps k v h
unary_keeps call.Year k v h = part_keeps (λ d. d.year) (λ d is. is.year) v
unary_keeps call.Month k v h = part_keeps (λ d. d.month) (λ d is. omega (arith, is.month)) v
unary_keeps call.Day k v h = part_keeps (λ d. d.day) (λ d is. omega (arith, is.day)) v
unary_keeps name k v h = null_has_type (call_type name k type.Boolean)

pub binary_keeps : (name : CallName) (k l : SqlType) (v w : Value) → has_type k v ≡ true → has_type l w ≡ true → KeepsType (call_type name k l) (binary_of name k l v w)
binary_keeps call.Add k l v w h j = numbers_keep bigint_sum decimal_sum sum_type (λ a b. bigint_keeps (a +ℤ b)) sums_keep k l v w h j
binary_keeps call.Subtract k l v w h j = numbers_keep bigint_difference decimal_difference sum_type (λ a b. bigint_keeps (a -ℤ b)) differences_keep k l v w h j
binary_keeps call.Multiply k l v w h j = numbers_keep bigint_product decimal_product product_type (λ a b. bigint_keeps (a *ℤ b)) products_keep k l v w h j
binary_keeps call.Divide k l v w h j = bigints_keep bigint_quotient (λ a b. unless_zero (int_eq b (pos 0)) (int_div a b)) v w
binary_keeps call.Modulo k l v w h j = bigints_keep bigint_remainder (λ a b. unless_zero (int_eq b (pos 0)) (int_rem a b)) v w
binary_keeps call.Equal k l v w h j = compared_keeps call.Equal v w
binary_keeps call.Unequal k l v w h j = compared_keeps call.Unequal v w
binary_keeps call.Less k l v w h j = compared_keeps call.Less v w
binary_keeps call.LessEqual k l v w h j = compared_keeps call.LessEqual v w
binary_keeps call.Greater k l v w h j = compared_keeps call.Greater v w
binary_keeps call.GreaterEqual k l v w h j = compared_keeps call.GreaterEqual v w
binary_keeps call.IsDistinct k l v w h j = refl
binary_keeps call.Like k l v w h j = like_keeps v w
binary_keeps call.Concat k l v w h j = concat_keeps v w
binary_keeps call.AddDays k l v w h j = add_days_keeps v w
binary_keeps call.DaysBetween k l v w h j = days_between_keeps k l v w h j
binary_keeps name k l v w h j = null_has_type (call_type name k l)
