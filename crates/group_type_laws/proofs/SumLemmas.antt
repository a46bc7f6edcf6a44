-- Sums and averages of values of a type.
use Rattle.std.proofs.Common.{◌≡◌, ℕ, ◌+◌, ◌*◌, ◌^◌, ◌<◌, ◌≤◌, List, [], ◌∷◌, length, Bool, true, false, ◌&&◌, if◌then◌else◌, ℤ, pos, negsuc, ◌+ℤ◌, nat_abs, Ok, Err, IfOk, refl, ap, ◌∙◌, arith, lit<, add-mul}
use Rattle.std.specs.Prelude.{All, IsTrue}
use Rattle.std.proofs.lemmas.List.Elements.{All-head, All-tail}
use Rattle.decimals.specs.Arithmetic.{is_decimal_type, rounded_quotient}
use Rattle.decimals.proofs.MagnitudeLemmas.{nat_abs-neg_ℤ, nat_abs-sum, power_positive}
use Rattle.scalar_texts.specs.Numbers.{has_64_bits}
use Rattle.sql_values.specs.declared.types.SqlType.{SqlType}
use Rattle.sql_values.specs.declared.types.SqlType.TheVariants as type
use Rattle.sql_values.specs.declared.value.Value.{Value}
use Rattle.sql_values.specs.declared.value.Value.TheVariants.{Null, Boolean, Bigint, Decimal, Varchar, Date}
use Rattle.sql_values.specs.declared.fail.Fail.{Fail}
use Rattle.sql_values.specs.declared.fail.Fail.TheVariants.{OutOfRange}
use Rattle.sql_values.specs.Order.{number_in}
use Rattle.sql_values.specs.Texts.{scale_of}
use Rattle.sql_functions.specs.CallTypes.{is_decimal}
use Rattle.relation_laws.specs.Aggregates.{average, average_of, most_group_rows, sum_of, total_of}
use Rattle.relation_laws.specs.Equality.{is_present}
use Rattle.plan_trees.specs.TreeTypes.{sum_kind}
use Rattle.accumulators.specs.Limits.{greatest, is_short}
use Rattle.accumulators.proofs.LimitLemmas.{greatest_small, room}
use Rattle.group_type_laws.proofs.TypeLemmas.{IsOf, null-is_of}
use Rattle.group_type_laws.proofs.QuotientLemmas.{quotient_within}
use Rattle.group_type_laws.proofs.DigitLemmas.{bits_within, date_within, decimal-is_of, decimal_parts, full_digits, scale_within}

-- values of a type that are not NULL
abbrev pub AllOf : SqlType → List Value → Type 0
AllOf kind vs = All (IsOf kind) vs

abbrev pub AllPresent : List Value → Type 0
AllPresent vs = All (λ v. is_present v ≡ true) vs

pub number_within : (kind : SqlType) (v : Value) → IsOf kind v → nat_abs (number_in v) ≤ greatest kind
number_within kind Null h = omega arith
number_within type.Boolean (Boolean truth) h = omega arith
number_within type.Bigint (Bigint n) h = bits_within n h
number_within (type.Decimal p s) (Decimal n) h = omega (arith, (decimal_parts p s n h).1)
number_within type.Varchar (Varchar text) h = omega arith
number_within type.Date (Date day) h = date_within day h
number_within kind v h = cc

pub total_within : (kind : SqlType) (vs : List Value) → AllOf kind vs → nat_abs (total_of vs) ≤ length vs * greatest kind
total_within kind [] h = omega arith
total_within kind (v ∷ vs) h =
    let g = greatest kind in
    let first : nat_abs (number_in v) ≤ g = number_within kind v (All-head (IsOf kind) v vs h) in
    let rest : nat_abs (total_of vs) ≤ length vs * g = total_within kind vs (All-tail (IsOf kind) v vs h) in
    let both : nat_abs (number_in v +ℤ total_of vs) ≤ nat_abs (number_in v) + nat_abs (total_of vs) = nat_abs-sum (number_in v) (total_of vs) in
    let more : length (v ∷ vs) ≡ 1 + length vs = omega arith in
    let whole : length (v ∷ vs) * g ≡ 1 * g + length vs * g = ap (λ n. n * g) more ∙ add-mul 1 (length vs) g in
    omega arith

-- sums of so many short numbers have at most 38 digits
pub total_small : (kind : SqlType) (vs : List Value) → IsTrue (is_short kind) → length vs ≤ most_group_rows → AllOf kind vs → nat_abs (total_of vs) < 10 ^ 38
total_small kind vs short few h =
    let g = greatest kind in
    let none : 0 ≤ 0 * g = omega arith in
    let all : length vs + 0 ≤ most_group_rows = omega (arith, few) in
    let small : nat_abs (total_of vs) + 0 < 2 ^ 126 = room (length vs) 0 g (nat_abs (total_of vs)) 0 (total_within kind vs h) none all (greatest_small kind short) in
    let top : 2 ^ 126 < 10 ^ 38 = lit< tt in
    omega arith

-- where there is a value, the digits of its type are within their bounds
present_type : (p s : ℕ) (v : Value) → is_present v ≡ true → IsOf (type.Decimal p s) v → IsTrue (is_decimal_type p s)
present_type p s Null present h = cc
present_type p s (Decimal n) present h = (decimal_parts p s n h).0
present_type p s v present h = cc

present_scale : (kind : SqlType) (v : Value) → is_present v ≡ true → IsOf kind v → scale_of kind ≤ 38
present_scale (type.Decimal p s) v present h = scale_within p s (present_type p s v present h)
present_scale type.Boolean v present h = omega arith
present_scale type.Bigint v present h = omega arith
present_scale type.Varchar v present h = omega arith
present_scale type.Date v present h = omega arith

pub total-is_of : (kind : SqlType) (v : Value) (vs : List Value) → IsTrue (is_short kind) → length (v ∷ vs) ≤ most_group_rows → AllOf kind (v ∷ vs) → AllPresent (v ∷ vs)
    → IsOf (type.Decimal 38 (scale_of kind)) (Decimal (total_of (v ∷ vs)))
total-is_of kind v vs short few h present =
    let scale = present_scale kind v (All-head (λ w. is_present w ≡ true) v vs present) (All-head (IsOf kind) v vs h) in
    decimal-is_of 38 (scale_of kind) (total_of (v ∷ vs)) (full_digits (scale_of kind) scale) (total_small kind (v ∷ vs) short few h)

within_bits : (total : ℤ) (b : Bool) → has_64_bits total ≡ b → IfOk {T = Value} {E = Fail} (if b then Ok (Bigint total) else Err OutOfRange) (IsOf type.Bigint)
within_bits total true e = e
within_bits total false e = tt

pub sum-is_of : (kind : SqlType) (vs : List Value) → IsTrue (is_short kind) → length vs ≤ most_group_rows → AllOf kind vs → AllPresent vs → IfOk (sum_of kind vs) (IsOf (sum_kind kind))
sum-is_of kind [] short few h present = null-is_of (sum_kind kind)
sum-is_of (type.Decimal p s) (v ∷ vs) short few h present = total-is_of (type.Decimal p s) v vs short few h present
sum-is_of type.Bigint (v ∷ vs) short few h present = within_bits (total_of (v ∷ vs)) (has_64_bits (total_of (v ∷ vs))) refl
sum-is_of kind (v ∷ vs) short few h present = cc

average_within : (total : ℤ) (count g : ℕ) → 0 < count → nat_abs total ≤ count * g → nat_abs (average total count) ≤ g
average_within (pos n) count g some h = quotient_within count n g some h
average_within (negsuc n) count g some h =
    let same : nat_abs (average (negsuc n) count) ≡ rounded_quotient count (n + 1) = nat_abs-neg_ℤ (pos (rounded_quotient count (n + 1))) in
    let within : rounded_quotient count (n + 1) ≤ g = quotient_within count (n + 1) g some (omega (arith, h)) in
    omega arith

-- an average is no greater than the greatest of its values
pub average-is_of : (kind : SqlType) (vs : List Value) → IsTrue (is_decimal kind && is_short kind) → AllOf kind vs → AllPresent vs → IfOk (average_of vs) (IsOf kind)
average-is_of (type.Decimal p s) [] can h present = null-is_of (type.Decimal p s)
average-is_of (type.Decimal p s) (v ∷ vs) can h present =
    let kind = type.Decimal p s in
    let total = total_of (v ∷ vs) in
    let count = length (v ∷ vs) in
    let within : nat_abs (average total count) ≤ greatest kind = average_within total count (greatest kind) (omega arith) (total_within kind (v ∷ vs) h) in
    decimal-is_of p s (average total count) (present_type p s v (All-head (λ w. is_present w ≡ true) v vs present) (All-head (IsOf kind) v vs h))
    (omega (arith, within, power_positive p))
average-is_of type.Boolean vs can h present = cc
average-is_of type.Bigint vs can h present = cc
average-is_of type.Varchar vs can h present = cc
average-is_of type.Date vs can h present = cc
