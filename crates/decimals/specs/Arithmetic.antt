-- Decimal arithmetic, by exact numbers: the unscaled number of a result, or None where it is out of range.
use Rattle.std.specs.Prelude.{ℕ, ◌+◌, ◌-◌, ◌*◌, ◌/◌, ◌%◌, ◌^◌, max, min, Bool, Option, Some, None, option_and_then, if◌then◌else◌, nat_lt, nat_le, ◌&&◌, ℤ, pos, negsuc, ◌+ℤ◌, ◌*ℤ◌, neg_ℤ, nat_abs}
use Rattle.decimals.specs.declared.decimal.Decimal.{Decimal}

-- whether a number has at most p digits
abbrev pub has_digits : ℕ → ℤ → Bool
has_digits p z = nat_lt (nat_abs z) (10 ^ p)

-- the number, where it has at most p digits
abbrev pub of_digits : ℕ → ℤ → Option ℤ
of_digits p z = if has_digits p z then Some z else None

-- a decimal as its unscaled number, its precision and its scale
abbrev pub Parts : Type 0
Parts = ℤ × ℕ × ℕ

abbrev pub parts_of : Decimal → Parts
parts_of d = (d.unscaled, d.p, d.s)

-- a precision of 1 to 38, and a scale within it
abbrev pub is_decimal_type : ℕ → ℕ → Bool
is_decimal_type p s = nat_le 1 p && nat_le p 38 && nat_le s p

-- the parts of a decimal, where there is one of the number and the type
abbrev pub checked_parts : ℤ → ℕ → ℕ → Option Parts
checked_parts z p s = if is_decimal_type p s && has_digits p z then Some (z, p, s) else None

-- the number with k more digits after the point
abbrev pub scaled : ℕ → ℤ → ℤ
scaled k z = z *ℤ pos (10 ^ k)

-- n divided by d; a half is rounded up
abbrev pub rounded_quotient : ℕ → ℕ → ℕ
rounded_quotient d n = n / d + (if nat_le d (2 * (n % d)) then 1 else 0)

-- the number with k fewer digits after the point, where a half is rounded away from zero
abbrev pub rounded : ℕ → ℤ → ℤ
rounded k (pos n) = pos (rounded_quotient (10 ^ k) n)
rounded k (negsuc n) = neg_ℤ (pos (rounded_quotient (10 ^ k) (n + 1)))

-- the type of a sum and of a difference, by those of both sides
abbrev pub sum_scale : ℕ → ℕ → ℕ
sum_scale s t = max s t

abbrev pub sum_precision : ℕ → ℕ → ℕ → ℕ → ℕ
sum_precision p s q t = min 38 (1 + sum_scale s t + max (p - s) (q - t))

-- the precision of a product, whose scale is the sum of the scales
abbrev pub product_precision : ℕ → ℕ → ℕ
product_precision p q = min 38 (p + q)

-- the unscaled number at a scale that is at least its own, where it has at most 38 digits
abbrev pub operand : ℕ → Parts → Option ℤ
operand s d = of_digits 38 (scaled (s - d.2) d.0)

-- the unscaled sum: both operands at the scale of the result, and the result, have at most 38 digits
abbrev pub sum_of : Parts → Parts → Option ℤ
sum_of a b =
    option_and_then (λ x. option_and_then (λ y. of_digits 38 (x +ℤ y)) (operand (sum_scale a.2 b.2) b)) (operand (sum_scale a.2 b.2) a)

abbrev pub difference_of : Parts → Parts → Option ℤ
difference_of a b =
    option_and_then (λ x. option_and_then (λ y. of_digits 38 (x +ℤ neg_ℤ y)) (operand (sum_scale a.2 b.2) b)) (operand (sum_scale a.2 b.2) a)

-- the unscaled product, where it has at most 38 digits
abbrev pub product_of : Parts → Parts → Option ℤ
product_of a b = of_digits 38 (a.0 *ℤ b.0)

-- the unscaled number at another scale, where it has at most p digits after rounding
abbrev pub rescaled : Parts → ℕ → ℕ → Option ℤ
rescaled d p s =
    if nat_le d.2 s then of_digits p (scaled (s - d.2) d.0) else of_digits p (rounded (d.2 - s) d.0)
