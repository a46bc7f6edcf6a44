-- Powers of ten, and what is too large for a decimal.
use Rattle.std.proofs.Common.{◌≡◌, ℕ, zero, suc, ◌+◌, ◌*◌, ◌^◌, ◌-◌, ◌/◌, ◌%◌, ◌<◌, ◌≤◌, min, List, length, Option, Some, None, option_and_then, option_map, refl, ap, sym, arith, ℤ, pos, negsuc, neg_ℤ, unsigned_abs, nat_le, ◌&&◌, cond, true, false}
use Rattle.std.proofs.Math.Nat.{pow-le-pow_right, one-le-pow, mul-le-mul_left, div-eq_of_lt, mod-eq_of_lt}
use Rattle.std.proofs.lemmas.Grind.{pow_more}
use Rattle.std.proofs.lemmas.Bool.Decides.{nat_tests}
use Rattle.scalar_texts.specs.Numbers.{digits_after, below, only_if}
use Rattle.scalar_texts.specs.Decimals.{with_fraction, has_digits}
use Rattle.scalar_texts.proofs.DigitLemmas.{below-none, le-from_none, same-from_some, too_large}

pub ten-mono : (i k : ℕ) → i ≤ k → 10 ^ i ≤ 10 ^ k
ten-mono i k h = pow-le-pow_right {n = 10} (omega arith) {i = i} {j = k} h

pub ten_pos : (e : ℕ) → 0 < 10 ^ e
ten_pos e = one-le-pow e 10 (omega arith)

-- a number of 128 bits has no whole part where more than 38 digits stand after the point
ten_large : (n s : ℕ) → 38 < s → n < 2 ^ 128 → n < 10 ^ s
ten_large n s more small = omega (arith, ten-mono 39 s (omega arith))

pub no_whole : (n s : ℕ) → 38 < s → n < 2 ^ 128 → 0 ≡ n / 10 ^ s
no_whole n s more small = sym (div-eq_of_lt (ten_large n s more small))

pub all_fraction : (n s : ℕ) → 38 < s → n < 2 ^ 128 → n ≡ n % 10 ^ s
all_fraction n s more small = sym (mod-eq_of_lt (ten_large n s more small))

pub ruleset parting = (ten_pos, no_whole, all_fraction)

scale-mono : (n i k : ℕ) → i ≤ k → n * 10 ^ i ≤ n * 10 ^ k
scale-mono n i k h = mul-le-mul_left n (ten-mono i k h)

le-scaled : (n k : ℕ) → n ≤ n * 10 ^ k
le-scaled n k = omega (arith, scale-mono n 0 k (omega arith))

pub scale_more : (n i : ℕ) → n * 10 ^ i * 10 ≡ n * 10 ^ (i + 1)
scale_more n i = omega (arith, ap (λ x. n * x) (pow_more 10 i))

pub scale_too_large : (n i k m : ℕ) → i < k → m ≡ n * 10 ^ i → 2 ^ 128 ≤ m * 10 → below (10 ^ 38) (n * 10 ^ k) ≡ None
scale_too_large n i k m h e large = below-none (10 ^ 38) (n * 10 ^ k) (omega (arith, scale_more n i, scale-mono n (i + 1) k (omega arith)))

pub ruleset scaling = (scale_more, scale_too_large)

-- what was read of too many digits is too large with any zeros after it
wide_none : (k n : ℕ) → 2 ^ 128 ≤ n → below (10 ^ 38) (n * 10 ^ k) ≡ None
wide_none k n h = below-none (10 ^ 38) (n * 10 ^ k) (omega (arith, le-scaled n k))

pub scaled_none : (k : ℕ) (o : Option ℕ) → option_and_then (below (2 ^ 128)) o ≡ None → option_and_then (below (10 ^ 38)) (option_map (λ m. m * 10 ^ k) o) ≡ None
scaled_none k None h = refl
scaled_none k (Some n) h = wide_none k n (le-from_none (2 ^ 128) n h)

pub scaled_some : (k m : ℕ) (o : Option ℕ) → option_and_then (below (2 ^ 128)) o ≡ Some m → option_and_then (below (10 ^ 38)) (option_map (λ m. m * 10 ^ k) o) ≡ below (10 ^ 38) (m * 10 ^ k)
scaled_some k m None h = cc
scaled_some k m (Some n) h = ap (λ x. below (10 ^ 38) (x * 10 ^ k)) (same-from_some (2 ^ 128) n m h)

pub digits_none : (s n : ℕ) (fraction : List ℕ) → option_and_then (below (2 ^ 128)) (digits_after n fraction) ≡ None → option_and_then (below (10 ^ 38)) (with_fraction s fraction n) ≡ None
digits_none s n fraction h =
    elim (nat_le 1 (length fraction) && nat_le (length fraction) s) as (λ b. option_and_then (below (10 ^ 38)) (cond b (option_map (λ m. m * 10 ^ (s - length fraction)) (digits_after n fraction)) None) ≡ None) [
      | true ↦ scaled_none (s - length fraction) (digits_after n fraction) h
      | false ↦ refl
    ]

fraction_none : (s n : ℕ) (fraction : List ℕ) → 2 ^ 128 ≤ n → option_and_then (below (10 ^ 38)) (with_fraction s fraction n) ≡ None
fraction_none s n fraction h = digits_none s n fraction (too_large (2 ^ 128) n fraction h)

pub whole_none : (s : ℕ) (fraction : List ℕ) (o : Option ℕ) → option_and_then (below (2 ^ 128)) o ≡ None → option_and_then (below (10 ^ 38)) (option_and_then (with_fraction s fraction) o) ≡ None
whole_none s fraction None h = refl
whole_none s fraction (Some n) h = fraction_none s n fraction (le-from_none (2 ^ 128) n h)

pub whole_some : (s m : ℕ) (fraction : List ℕ) (o : Option ℕ) → option_and_then (below (2 ^ 128)) o ≡ Some m → option_and_then (with_fraction s fraction) o ≡ with_fraction s fraction m
whole_some s m fraction None h = cc
whole_some s m fraction (Some n) h = ap (with_fraction s fraction) (same-from_some (2 ^ 128) n m h)

pub ruleset reading = (scaled_none, scaled_some, digits_none, whole_none, whole_some)

-- what is too large for 38 digits has too many for any decimal
large_fails : (p : ℕ) (z : ℤ) → 10 ^ 38 ≤ unsigned_abs z → only_if (has_digits p) z ≡ None
large_fails p z h = let t = ten-mono (min p 38) 38 (omega arith) in grind (arith, nat_tests)

pub judged_none : (p : ℕ) (o : Option ℕ) → option_and_then (below (10 ^ 38)) o ≡ None → option_and_then (only_if (has_digits p)) (option_map pos o) ≡ None
judged_none p None h = refl
judged_none p (Some n) h = large_fails p (pos n) (le-from_none (10 ^ 38) n h)

pub minus_none : (p : ℕ) (o : Option ℕ) → option_and_then (below (10 ^ 38)) o ≡ None → option_and_then (only_if (has_digits p)) (option_map (λ n. neg_ℤ (pos n)) o) ≡ None
minus_none p None h = refl
minus_none p (Some zero) h = large_fails p (pos zero) (le-from_none (10 ^ 38) zero h)
minus_none p (Some (suc n)) h = large_fails p (negsuc n) (le-from_none (10 ^ 38) (suc n) h)

pub ruleset judging = (judged_none, minus_none)
