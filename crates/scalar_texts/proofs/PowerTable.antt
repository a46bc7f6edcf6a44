-- The table of the powers of ten.
use Rattle.std.proofs.Common.{◌≡◌, ℕ, ◌^◌, ◌<◌, get_or, map, refl, ap, ◌∙◌, arith}
use Rattle.std.proofs.lemmas.List.FromFn.{get_or-map-range_with_len}
use Rattle.std.specs.List.{range_with_len}
use Rattle.scalar_texts.specs.declared.powers.TheConstants.{POWERS_OF_TEN}

table : POWERS_OF_TEN ≡ map (λ e. 10 ^ e) (range_with_len 0 39)
table = refl

pub power_at : (e : ℕ) → e < 39 → get_or POWERS_OF_TEN e 0 ≡ 10 ^ e
power_at e h = ap (λ xs. get_or xs e 0) table ∙ get_or-map-range_with_len (λ k. 10 ^ k) 0 39 e e 0 h (omega arith)

pub ruleset powers = (power_at)
