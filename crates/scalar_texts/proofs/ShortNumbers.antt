-- A number of few digits is small.
use Rattle.std.proofs.Common.{◌≡◌, ℕ, ◌+◌, ◌*◌, ◌^◌, ◌<◌, ◌≤◌, List, [], ◌∷◌, length, Option, Some, None, option_and_then, option_map, refl, ap, arith}
use Rattle.std.proofs.lemmas.Grind.{pow_more}
use Rattle.std.proofs.lemmas.Bool.Decides.{nat_tests}
use Rattle.scalar_texts.specs.Numbers.{digit_of, digits_after, number_of, below}
use Rattle.scalar_texts.proofs.DigitLemmas.{below-some}
use Rattle.scalar_texts.proofs.DecimalLemmas.{ten-mono}

digit_small : (b d : ℕ) → digit_of b ≡ Some d → d < 10
digit_small b d h = grind (arith, nat_tests)

-- k digits and those after them write a number of as many digits
digits_small : (k n j : ℕ) (ds : List ℕ) (m : ℕ) → j ≡ k + length ds → n < 10 ^ k → digits_after n ds ≡ Some m → m < 10 ^ j
digits_small k n j [] m e h =
    λ p.
    let same : n ≡ m = cc in
    let f : 10 ^ j ≡ 10 ^ k = ap (λ x. 10 ^ x) (omega arith) in
    omega arith
digits_small k n j (b ∷ bs) m e h =
    elim (digit_of b) as (λ o. ((d : ℕ) → o ≡ Some d → d < 10) → option_and_then (λ m. digits_after m bs) (option_map (λ d. n * 10 + d) o) ≡ Some m → m < 10 ^ j) [
      | None ↦ λ small p. cc
      | Some d ↦ λ small p. digits_small (k + 1) (n * 10 + d) j bs m (omega arith) (omega (arith, small d refl, pow_more 10 k)) p
    ] (digit_small b)

short_by : (limit : ℕ) (o : Option ℕ) → ((n : ℕ) → o ≡ Some n → n < limit) → option_and_then (below limit) o ≡ o
short_by limit None h = refl
short_by limit (Some n) h = below-some limit n (h n refl)

pub short_number_is : (limit : ℕ) (ds : List ℕ) → 2 ^ 64 ≤ limit → length ds < 19 → option_and_then (below limit) (number_of ds) ≡ number_of ds
short_number_is limit [] large h = refl
short_number_is limit (b ∷ bs) large h =
    short_by limit (number_of (b ∷ bs))
    (λ n e. omega (arith, large, digits_small 0 0 (length (b ∷ bs)) (b ∷ bs) n (omega arith) (omega arith) e, ten-mono (length (b ∷ bs)) 18 (omega arith)))

pub ruleset short = (short_number_is)
