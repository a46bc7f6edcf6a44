-- Decimals: whole numbers of units of 10^-s.
use Rattle.std.specs.Prelude.{ℕ, ◌+◌, ◌*◌, ◌-◌, ◌/◌, ◌%◌, ◌^◌, List, ◌∷◌, ◌++◌, length, take, drop, position, Option, Some, None, option_map, option_and_then, Bool, ◌&&◌, nat_le, nat_lt, ◌==◌, if◌then◌else◌, min, ℤ, pos, negsuc, unsigned_abs}
use Rattle.std.specs.Fmt.{decimal}
use Rattle.scalar_texts.specs.Numbers.{digits_after, number_of, signed_of, only_if, padded}

-- the units that one to s digits after the point make, where those before it write n
abbrev pub with_fraction : ℕ → List ℕ → ℕ → Option ℕ
with_fraction s fraction n =
    if nat_le 1 (length fraction) && nat_le (length fraction) s
    then option_map (λ m. m * 10 ^ (s - length fraction)) (digits_after n fraction)
    else None

-- the place of the point
abbrev pub point_in : List ℕ → Option ℕ
point_in text = position (λ b. b == 46) text

-- the units that a text writes whose point is at the place
abbrev pub magnitude_at : ℕ → List ℕ → Option ℕ → Option ℕ
magnitude_at s text None = option_map (λ n. n * 10 ^ s) (number_of text)
magnitude_at s text (Some point) = option_and_then (with_fraction s (drop (point + 1) text)) (number_of (take point text))

-- the units that one or more digits write, and optionally a point and digits after them
abbrev pub magnitude_of : ℕ → List ℕ → Option ℕ
magnitude_of s text = magnitude_at s text (point_in text)

-- at most p digits, and never more than 38
abbrev pub has_digits : ℕ → ℤ → Bool
has_digits p z = nat_lt (unsigned_abs z) (10 ^ min p 38)

-- the units that the text of a decimal(p,s) writes
abbrev pub decimal_of : ℕ → ℕ → List ℕ → Option ℤ
decimal_of p s text = option_and_then (only_if (has_digits p)) (signed_of (magnitude_of s) text)

-- the digits before the point, the point and s digits
abbrev pub pointed_text : ℕ → ℕ → List ℕ
pointed_text s n = decimal (n / 10 ^ s) ++ 46 ∷ padded s (n % 10 ^ s)

-- the text without a sign, which has a point for s above 0
abbrev pub magnitude_text : ℕ → ℕ → List ℕ
magnitude_text s n = if s == 0 then decimal n else pointed_text s n

-- the text of so many units
abbrev pub decimal_text : ℕ → ℤ → List ℕ
decimal_text s (pos n) = magnitude_text s n
decimal_text s (negsuc n) = 45 ∷ magnitude_text s (n + 1)
