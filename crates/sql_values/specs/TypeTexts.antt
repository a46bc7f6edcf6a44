-- The texts of types.
use Rattle.std.specs.Prelude.{ℕ, ◌+◌, ◌-◌, List, [], ◌∷◌, ◌++◌, length, take, drop, slice_index, slice_range, position, Option, Some, None, Bool, ◌&&◌, ◌||◌, nat_le, nat_lt, nat_eq, ◌==◌, if◌then◌else◌, codes}
use Rattle.std.specs.Fmt.{decimal}
use Rattle.std.specs.Cmp.Lexicographic.{pointwise}
use Rattle.scalar_texts.specs.Numbers.{number_of}
use Rattle.sql_values.specs.declared.types.SqlType.{SqlType}
use Rattle.sql_values.specs.declared.types.SqlType.TheVariants.{Boolean, Bigint, Decimal, Varchar, Date}

abbrev pub comma : ℕ
comma = 44

abbrev pub closing_parenthesis : ℕ
closing_parenthesis = 41

abbrev pub digit_zero : ℕ
digit_zero = 48

-- what stands behind `decimal(`
abbrev pub parameters_text : ℕ → ℕ → List ℕ
parameters_text p s = decimal p ++ comma ∷ (decimal s ++ closing_parenthesis ∷ [])

abbrev pub decimal_type_text : ℕ → ℕ → List ℕ
decimal_type_text p s = codes "decimal(" ++ parameters_text p s

abbrev pub type_text : SqlType → List ℕ
type_text Boolean = codes "boolean"
type_text Bigint = codes "bigint"
type_text (Decimal p s) = decimal_type_text p s
type_text Varchar = codes "varchar"
type_text Date = codes "date"

-- a number of one or two digits, without leading zeros
abbrev pub plain_number_of : List ℕ → Option ℕ
plain_number_of digits =
    if nat_lt 2 (length digits)
    || ((slice_index digits 0 == digit_zero) && nat_lt 1 (length digits))
    then None
    else number_of digits

-- the decimal type of so many digits, so many of them after the point
abbrev pub decimal_type : Option ℕ → Option ℕ → Option SqlType
decimal_type (Some p) (Some s) =
    if nat_le 1 p && nat_le p 38 && nat_le s p then Some (Decimal p s) else None
decimal_type p s = None

-- the decimal type that two numbers write whose comma is at the place
abbrev pub parameters_at : List ℕ → Option ℕ → Option SqlType
parameters_at text None = None
parameters_at text (Some place) =
    decimal_type (plain_number_of (take place text)) (plain_number_of (drop (place + 1) text))

-- the place of the comma
abbrev pub comma_in : List ℕ → Option ℕ
comma_in text = position (λ b. b == comma) text

-- the decimal type whose numbers the text writes
abbrev pub parameters_of : List ℕ → Option SqlType
parameters_of text = parameters_at text (comma_in text)

abbrev pub same_text : List ℕ → List ℕ → Bool
same_text = pointwise nat_eq

-- the type that `decimal(p,s)` names
abbrev pub decimal_type_of : List ℕ → Option SqlType
decimal_type_of text =
    if nat_le 9 (length text) && same_text (slice_range text 0 8) (codes "decimal(")
    && (slice_index text (length text - 1) == closing_parenthesis)
    then parameters_of (slice_range text 8 (length text - 1))
    else None

-- the type that a text names
abbrev pub type_of_text : List ℕ → Option SqlType
type_of_text text =
    if same_text text (codes "boolean") then Some Boolean
    else if same_text text (codes "bigint") then Some Bigint
    else if same_text text (codes "varchar") then Some Varchar
    else if same_text text (codes "date") then Some Date
    else decimal_type_of text
