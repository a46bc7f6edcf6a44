-- Numbers that are within the limits stand as they are.
use Rattle.std.proofs.Common.{◌≡◌, ℕ, ◌<◌, ◌≤◌, ◌^◌, ap, arith}
use Rattle.std.specs.Prelude.{if◌then◌else◌}
use Rattle.std.proofs.lemmas.Bool.{lt-ltb}
use Rattle.plan_docs.specs.Words.{small}

pub small_same : (n : ℕ) → n ≤ 256 → small n ≡ n
small_same n h = let below : n < 2 ^ 32 = omega (arith, h) in ap (λ b. if b then n else 0) (lt-ltb n (2 ^ 32) below)
