-- The last of some places that passes a test.
use Rattle.std.proofs.Common.{◌≡◌, ℕ, ◌<◌, ◌≤◌, zero, suc, refl, ap, sym, ◌∙◌, arith, Bool, true, false}
use Rattle.std.specs.Prelude.{if◌then◌else◌}
use Rattle.std.proofs.lemmas.Bool.{true≢false}
use Rattle.group_index.specs.Places.{last_below}

within_at : (test : ℕ → Bool) (n : ℕ) (b : Bool) → test n ≡ b → last_below test n ≤ n → last_below test (suc n) ≤ suc n
within_at test n true e h = omega (arith, ap (λ (c : Bool). if c then suc n else last_below test n) e)
within_at test n false e h = omega (arith, h, ap (λ (c : Bool). if c then suc n else last_below test n) e)

pub last_below-within : (test : ℕ → Bool) (n : ℕ) → last_below test n ≤ n
last_below-within test zero = omega arith
last_below-within test (suc n) = within_at test n (test n) refl (last_below-within test n)

-- where all that pass one test pass another, the last that passes it is among those up to the last that passes the other
skip_at : (p q : ℕ → Bool) (n : ℕ) (b : Bool) → p n ≡ b → (q n ≡ true → p n ≡ true) → last_below q n ≡ last_below q (last_below p n)
    → last_below q (suc n) ≡ last_below q (if p n then suc n else last_below p n)
skip_at p q n true e more h = ap (λ (c : Bool). last_below q (if c then suc n else last_below p n)) (sym e)
skip_at p q n false e more h = fails_at (q n) refl
  where
    fails_at : (b : Bool) → q n ≡ b → last_below q (suc n) ≡ last_below q (if p n then suc n else last_below p n)
    fails_at true f = absurd (true≢false (sym (more f) ∙ e))
    fails_at false f =
        ap (λ (c : Bool). if c then suc n else last_below q n) f ∙ h
        ∙ ap (λ (c : Bool). last_below q (if c then suc n else last_below p n)) (sym e)

pub last_below-skip : (p q : ℕ → Bool) (n : ℕ) → ((k : ℕ) → k < n → q k ≡ true → p k ≡ true) → last_below q n ≡ last_below q (last_below p n)
last_below-skip p q zero more = refl
last_below-skip p q (suc n) more = skip_at p q n (p n) refl (more n (omega arith)) (last_below-skip p q n (λ k lt. more k (omega (arith, lt))))

-- tests that agree below
pub last_below-same : (p q : ℕ → Bool) (n : ℕ) → ((k : ℕ) → k < n → p k ≡ q k) → last_below p n ≡ last_below q n
last_below-same p q zero same = refl
last_below-same p q (suc n) same =
    λ i. if same n (omega arith) i then suc n else last_below-same p q n (λ k lt. same k (omega (arith, lt))) i

-- what is there passes
passes_at : (test : ℕ → Bool) (n place : ℕ) (b : Bool) → test n ≡ b → (last_below test n ≡ suc place → test place ≡ true) → last_below test (suc n) ≡ suc place → test place ≡ true
passes_at test n place true e h is =
    let same : n ≡ place = omega (arith, is, ap (λ (c : Bool). if c then suc n else last_below test n) e) in
    ap test (sym same) ∙ e
passes_at test n place false e h is = h (sym (ap (λ (c : Bool). if c then suc n else last_below test n) e) ∙ is)

pub last_below-passes : (test : ℕ → Bool) (n place : ℕ) → last_below test n ≡ suc place → test place ≡ true
last_below-passes test zero place is = absurd (omega (arith, is))
last_below-passes test (suc n) place is = passes_at test n place (test n) refl (last_below-passes test n place) is

-- one that fails is passed over, and one that passes is the last
pub last_below-over : (test : ℕ → Bool) (n : ℕ) → test n ≡ false → last_below test (suc n) ≡ last_below test n
last_below-over test n e = ap (λ (c : Bool). if c then suc n else last_below test n) e

pub last_below-at : (test : ℕ → Bool) (n : ℕ) → test n ≡ true → last_below test (suc n) ≡ suc n
last_below-at test n e = ap (λ (c : Bool). if c then suc n else last_below test n) e
