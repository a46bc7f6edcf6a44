-- Whole numbers as texts write them.
use Rattle.std.specs.Prelude.{ℕ, ◌+◌, ◌*◌, ◌-◌, ◌^◌, List, [], ◌∷◌, ◌++◌, length, Option, Some, None, option_map, option_and_then, Bool, ◌&&◌, nat_le, nat_lt, ◌==◌, if◌then◌else◌, ℤ, pos, negsuc, neg_ℤ, replicate}
use Rattle.std.specs.Fmt.{decimal}

-- the digit that a byte writes
abbrev pub digit_of : ℕ → Option ℕ
digit_of byte = if nat_le 48 byte && nat_le byte 57 then Some (byte - 48) else None

-- the number that n becomes when one more digit is written after it
abbrev pub with_digit : ℕ → ℕ → Option ℕ
with_digit n byte = option_map (λ d. n * 10 + d) (digit_of byte)

-- the number that the digits write when they follow those of n
abbrev pub digits_after : ℕ → List ℕ → Option ℕ
digits_after n [] = Some n
digits_after n (b ∷ bs) = option_and_then (λ m. digits_after m bs) (with_digit n b)

-- the number that one or more digits write
abbrev pub number_of : List ℕ → Option ℕ
number_of [] = None
number_of (b ∷ bs) = digits_after 0 (b ∷ bs)

-- what an optional sign and the text of a magnitude write
abbrev pub signed_of : (List ℕ → Option ℕ) → List ℕ → Option ℤ
signed_of magnitude [] = None
signed_of magnitude (b ∷ bs) =
    if b == 45 then option_map (λ n. neg_ℤ (pos n)) (magnitude bs)
    else if b == 43 then option_map pos (magnitude bs)
    else option_map pos (magnitude (b ∷ bs))

-- the value, where it passes the test
abbrev pub only_if : {A : Type 0} → (A → Bool) → A → Option A
only_if passes x = if passes x then Some x else None

-- the number, where it is below the limit
abbrev pub below : ℕ → ℕ → Option ℕ
below limit n = if nat_lt n limit then Some n else None

-- from -2^63 to 2^63 - 1
abbrev pub has_64_bits : ℤ → Bool
has_64_bits (pos n) = nat_lt n (2 ^ 63)
has_64_bits (negsuc n) = nat_lt n (2 ^ 63)

-- an optional sign and one or more digits, where the number is within 64 bits
abbrev pub bigint_of : List ℕ → Option ℤ
bigint_of text = option_and_then (only_if has_64_bits) (signed_of number_of text)

-- the number in digits, with zeros before it up to the width
abbrev pub padded : ℕ → ℕ → List ℕ
padded width n = replicate (width - length (decimal n)) 48 ++ decimal n
