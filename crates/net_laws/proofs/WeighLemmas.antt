-- The scans and joins of an id in the parts of a run, where each part stands as often as it is read.
use Rattle.std.proofs.Common.{◌≡◌, ℕ, ◌+◌, ◌-◌, ◌≤◌, zero, suc, List, [], ◌∷◌, length, Bool, true, false, refl, ap, arith}
use Rattle.std.specs.Prelude.{◌==◌, slice_get, unwrap_or, if◌then◌else◌}
use Rattle.std.proofs.lemmas.Bool.{eqb-false, eqb-true}
use Rattle.plan_spreads.specs.Reading.{IsAmong}
use Rattle.plan_spreads.specs.Runs.{Part, no_part, part_read}
use Rattle.net_laws.proofs.JoinCountLemmas.{ids_in, named_of}

-- so many times a number
abbrev pub times : ℕ → ℕ → ℕ
times zero c = 0
times (suc n) c = c + times n c

times_sum : (a b c : ℕ) → times (a + b) c ≡ times a c + times b c
times_sum zero b c =
    let same : 0 + b ≡ b = omega arith in
    let here = ap (λ n. times n c) same in
    omega (arith, here)
times_sum (suc a) b c =
    let same : suc a + b ≡ suc (a + b) = omega arith in
    let here = ap (λ n. times n c) same in
    let rest = times_sum a b c in
    omega (arith, here, rest)

pub once_most : (n c : ℕ) → n ≤ 1 → times n c ≤ c
once_most zero c low = omega arith
once_most (suc zero) c low = omega arith
once_most (suc (suc n)) c low = absurd (omega (arith, low))

module _ (n : ℕ) where
  -- how many scans and joins of a part have the id
  abbrev pub own : Part → ℕ
  own p = ids_in n (named_of p.root)

  -- the parts from place i on
  abbrev pub weighed : (ℕ → ℕ) → ℕ → List Part → ℕ
  weighed often i [] = 0
  weighed often i (p ∷ ps) = times (often i) (own p) + weighed often (i + 1) ps

  pub weighed_sum : (f g : ℕ → ℕ) (i : ℕ) (ps : List Part) → weighed (λ k. f k + g k) i ps ≡ weighed f i ps + weighed g i ps
  weighed_sum f g i [] = omega arith
  weighed_sum f g i (p ∷ ps) = omega (arith, times_sum (f i) (g i) (own p), weighed_sum f g (i + 1) ps)

  abbrev one_of : ℕ → ℕ → ℕ
  one_of fragment k = if fragment == k then 1 else 0

  -- the part that is read once
  pub read_once : (fragment i : ℕ) (ps : List Part) → IsAmong i (length ps) fragment → own (part_read i ps fragment) ≤ weighed (one_of fragment) i ps
  read_once fragment i [] among = absurd (omega (arith, among.0, among.1))
  read_once fragment i (p ∷ ps) among = by (λ later. read_once fragment (i + 1) ps (later, omega (arith, among.1))) (fragment == i) refl
    where
      by : (i + 1 ≤ fragment → own (part_read (i + 1) ps fragment) ≤ weighed (one_of fragment) (i + 1) ps)
          → (b : Bool) → fragment == i ≡ b → own (part_read i (p ∷ ps) fragment) ≤ weighed (one_of fragment) i (p ∷ ps)
      by more true is =
          let same = eqb-true fragment i is in
          let none : fragment - i ≡ 0 = omega (arith, same) in
          let this = ap (λ (k : ℕ). own (unwrap_or (slice_get (p ∷ ps) k) no_part)) none in
          let weight = ap (λ (b : Bool). times (if b then 1 else 0) (own p)) is in
          omega (arith, this, weight)
      by more false is =
          let other = eqb-false fragment i is in
          let later : i + 1 ≤ fragment = omega (arith, other, among.0) in
          let next : fragment - i ≡ suc (fragment - (i + 1)) = omega (arith, later) in
          let this = ap (λ (k : ℕ). own (unwrap_or (slice_get (p ∷ ps) k) no_part)) next in
          let rest = more later in
          omega (arith, this, rest)
