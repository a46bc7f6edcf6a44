-- The types of calls and casts.
use Rattle.std.specs.Prelude.{ℕ, ◌+◌, List, [], ◌∷◌, length, unwrap_or, slice_get, Bool, true, false, ◌&&◌, ◌||◌, nat_le, ◌==◌, if◌then◌else◌}
use Rattle.std.specs.List.{list_all}
use Rattle.decimals.specs.Arithmetic.{product_precision, sum_precision, sum_scale}
use Rattle.sql_values.specs.declared.types.SqlType.{SqlType}
use Rattle.sql_values.specs.declared.types.SqlType.TheVariants.{Boolean, Bigint, Decimal, Varchar, Date}
use Rattle.sql_values.specs.Texts.{scale_of}
use Rattle.sql_functions.specs.declared.name.CallName.{CallName}
use Rattle.sql_functions.specs.declared.name.CallName.TheVariants as call

abbrev pub is_boolean : SqlType → Bool
is_boolean Boolean = true
is_boolean kind = false

abbrev pub is_bigint : SqlType → Bool
is_bigint Bigint = true
is_bigint kind = false

abbrev pub is_decimal : SqlType → Bool
is_decimal (Decimal p s) = true
is_decimal kind = false

abbrev pub is_varchar : SqlType → Bool
is_varchar Varchar = true
is_varchar kind = false

abbrev pub is_date : SqlType → Bool
is_date Date = true
is_date kind = false

abbrev pub is_this_decimal : ℕ → ℕ → SqlType → Bool
is_this_decimal p s (Decimal q t) = (p == q) && (s == t)
is_this_decimal p s kind = false

-- equal types, with equal digits
abbrev pub same_type : SqlType → SqlType → Bool
same_type Boolean other = is_boolean other
same_type Bigint other = is_bigint other
same_type (Decimal p s) other = is_this_decimal p s other
same_type Varchar other = is_varchar other
same_type Date other = is_date other

-- the type of a sum and of a difference
abbrev pub sum_with : ℕ → ℕ → SqlType → SqlType
sum_with p s (Decimal q t) = Decimal (sum_precision p s q t) (sum_scale s t)
sum_with p s right = Bigint

abbrev pub sum_type : SqlType → SqlType → SqlType
sum_type (Decimal p s) right = sum_with p s right
sum_type left right = Bigint

-- the type of a product, whose scale is at most 38
abbrev pub product_with : ℕ → ℕ → SqlType → SqlType
product_with p s (Decimal q t) = if nat_le (s + t) 38 then Decimal (product_precision p q) (s + t) else Bigint
product_with p s right = Bigint

abbrev pub product_type : SqlType → SqlType → SqlType
product_type (Decimal p s) right = product_with p s right
product_type left right = Bigint

-- the type at a place of a list
abbrev pub type_at : List SqlType → ℕ → SqlType
type_at kinds i = unwrap_or (slice_get kinds i) Boolean

-- the type of a call whose first arguments have these types
abbrev pub call_type : CallName → SqlType → SqlType → SqlType
call_type call.Add first second = sum_type first second
call_type call.Subtract first second = sum_type first second
call_type call.Multiply first second = product_type first second
call_type call.Neg first second = first
call_type call.Coalesce first second = first
call_type call.Divide first second = Bigint
call_type call.Modulo first second = Bigint
call_type call.Length first second = Bigint
call_type call.DaysBetween first second = Bigint
call_type call.Year first second = Bigint
call_type call.Month first second = Bigint
call_type call.Day first second = Bigint
call_type call.Concat first second = Varchar
call_type call.AddDays first second = Date
call_type name first second = Boolean

abbrev pub are_numbers : SqlType → SqlType → Bool
are_numbers k l = (is_bigint k && is_bigint l) || (is_decimal k && is_decimal l)

abbrev pub are_factors : SqlType → SqlType → Bool
are_factors k l = are_numbers k l && nat_le (scale_of k + scale_of l) 38

-- bigint and decimal
abbrev pub is_number : SqlType → Bool
is_number kind = is_bigint kind || is_decimal kind

-- the calls of one argument, and the type that each takes
abbrev pub takes_one : CallName → SqlType → Bool
takes_one call.Neg k = is_number k
takes_one call.IsNull k = true
takes_one call.Not k = is_boolean k
takes_one call.Length k = is_varchar k
takes_one call.Year k = is_date k
takes_one call.Month k = is_date k
takes_one call.Day k = is_date k
takes_one name k = false

-- the calls of two arguments, and the types that each takes
abbrev pub takes_two : CallName → SqlType → SqlType → Bool
takes_two call.Add k l = are_numbers k l
takes_two call.Subtract k l = are_numbers k l
takes_two call.Multiply k l = are_factors k l
takes_two call.Divide k l = is_bigint k && is_bigint l
takes_two call.Modulo k l = is_bigint k && is_bigint l
takes_two call.Equal k l = same_type k l
takes_two call.Unequal k l = same_type k l
takes_two call.Less k l = same_type k l
takes_two call.LessEqual k l = same_type k l
takes_two call.Greater k l = same_type k l
takes_two call.GreaterEqual k l = same_type k l
takes_two call.IsDistinct k l = same_type k l
takes_two call.Like k l = is_varchar k && is_varchar l
takes_two call.Concat k l = is_varchar k && is_varchar l
takes_two call.AddDays k l = is_date k && is_bigint l
takes_two call.DaysBetween k l = is_date k && is_date l
takes_two name k l = false

-- the calls of 2 to 64 arguments, and the types that each takes
abbrev pub takes_several : CallName → List SqlType → Bool
takes_several call.And kinds = list_all is_boolean kinds
takes_several call.Or kinds = list_all is_boolean kinds
takes_several call.Coalesce kinds = list_all (same_type (type_at kinds 0)) kinds
takes_several name kinds = false

abbrev pub are_several : List SqlType → Bool
are_several kinds = nat_le 2 (length kinds) && nat_le (length kinds) 64

abbrev pub takes_all : CallName → List SqlType → Bool
takes_all name kinds = are_several kinds && takes_several name kinds

-- the types that a call takes
abbrev pub takes_types : CallName → List SqlType → Bool
takes_types name [] = false
takes_types name (k ∷ []) = takes_one name k
takes_types name (k ∷ l ∷ []) = takes_two name k l || takes_all name (k ∷ l ∷ [])
takes_types name (k ∷ l ∷ m ∷ kinds) = takes_all name (k ∷ l ∷ m ∷ kinds)

-- from a type to itself, among the numbers, from varchar and to varchar
abbrev pub can_cast : SqlType → SqlType → Bool
can_cast from to = same_type from to || is_varchar from || is_varchar to || (is_number from && is_number to)
