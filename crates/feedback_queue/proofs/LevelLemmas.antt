-- What a turn of a level weighs.
use Rattle.std.proofs.Common.{ℕ, ◌+◌, ◌-◌, ◌*◌, ◌/◌, ◌^◌, ◌<◌, ◌≤◌, max, zero, suc, arith}

pub power_few : (n : ℕ) → n ≤ 4 → 2 ^ n ≤ 16
power_few zero few = omega arith
power_few (suc zero) few = omega arith
power_few (suc (suc zero)) few = omega arith
power_few (suc (suc (suc zero))) few = omega arith
power_few (suc (suc (suc (suc zero)))) few = omega arith
power_few (suc (suc (suc (suc (suc n))))) few = absurd (omega (arith, few))

-- a level that was raised to a weight within 2^63 stays within
pub raised_within : (turns least number : ℕ) → number ≤ 4 → turns * 2 ^ number ≤ 2 ^ 63 → least ≤ 2 ^ 63
    → max turns ((least + (2 ^ number - 1)) / 2 ^ number) * 2 ^ number ≤ 2 ^ 63
raised_within turns least zero few t l = omega (arith, t, l)
raised_within turns least (suc zero) few t l = omega (arith, t, l)
raised_within turns least (suc (suc zero)) few t l = omega (arith, t, l)
raised_within turns least (suc (suc (suc zero))) few t l = omega (arith, t, l)
raised_within turns least (suc (suc (suc (suc zero)))) few t l = omega (arith, t, l)
raised_within turns least (suc (suc (suc (suc (suc n))))) few t l = absurd (omega (arith, few))

-- a level below the most turns stays within 2^63 with one more
pub turn_within : (turns number : ℕ) → number ≤ 4 → turns < 2 ^ 59 → (turns + 1) * 2 ^ number ≤ 2 ^ 63
turn_within turns zero few less = omega (arith, less)
turn_within turns (suc zero) few less = omega (arith, less)
turn_within turns (suc (suc zero)) few less = omega (arith, less)
turn_within turns (suc (suc (suc zero))) few less = omega (arith, less)
turn_within turns (suc (suc (suc (suc zero)))) few less = omega (arith, less)
turn_within turns (suc (suc (suc (suc (suc n))))) few less = absurd (omega (arith, few))
