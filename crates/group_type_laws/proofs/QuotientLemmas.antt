-- A total of so many numbers, divided by how many they are, is no greater than the greatest of them.
use Rattle.std.proofs.Common.{◌≡◌, ℕ, ◌+◌, ◌*◌, ◌/◌, ◌%◌, ◌<◌, ◌≤◌, Bool, true, false, ◌⊎◌, inl, inr, nat_le, if◌then◌else◌, sym, subst, arith}
use Rattle.std.proofs.lemmas.Bool.{cases_lt, lt-leb}
use Rattle.std.proofs.Math.Nat.{div-add-mod, div-le_of_le-mul, mul-le-mul_left}
use Rattle.decimals.specs.Arithmetic.{rounded_quotient}

one_at_most : (b : Bool) → (if b then 1 else 0) ≤ 1
one_at_most true = omega arith
one_at_most false = omega arith

-- where the quotient is the bound itself nothing remains, and so it is not rounded up
pub quotient_within : (d n g : ℕ) → 0 < d → n ≤ d * g → rounded_quotient d n ≤ g
quotient_within d n g some h = by_quotient (cases_lt (n / d) g)
  where
    by_quotient : (n / d < g) ⊎ (g ≤ n / d) → rounded_quotient d n ≤ g
    by_quotient (inl lt) = omega (arith, lt, one_at_most (nat_le d (2 * (n % d))))
    by_quotient (inr le) =
        let within : n / d ≤ g = div-le_of_le-mul d h in
        let whole : d * (n / d) + n % d ≡ n = div-add-mod n d in
        let most : d * g ≤ d * (n / d) = mul-le-mul_left d le in
        let rest : n % d ≡ 0 = omega arith in
        let not_up : nat_le d (2 * (n % d)) ≡ false = lt-leb d (2 * (n % d)) (omega arith) in
        subst (λ (b : Bool). n / d + (if b then 1 else 0) ≤ g) (sym not_up) (omega arith)
