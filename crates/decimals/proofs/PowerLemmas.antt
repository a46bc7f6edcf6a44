-- Powers of ten, as far as decimals use them, stay within 128 bits.
use Rattle.std.proofs.Common.{ℕ, ◌≤◌, ◌<◌, ◌^◌, arith, lit<}
use Rattle.std.proofs.Math.Nat.{pow-le-pow_right}

pub power_fits : (k : ℕ) → k ≤ 38 → 10 ^ k < 2 ^ 127
power_fits k h =
    let one : 0 < 10 = lit< tt in
    let below : 10 ^ k ≤ 10 ^ 38 = pow-le-pow_right one h in
    let top : 10 ^ 38 < 2 ^ 127 = lit< tt in
    omega arith
