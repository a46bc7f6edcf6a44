-- How often an id is in a list, and that scans and joins whose ids are there once are apart.
use Rattle.std.proofs.Common.{◌≡◌, ◌⊎◌, inl, inr, ℕ, ◌+◌, ◌≤◌, List, [], ◌∷◌, ◌++◌, Contains, refl, ap, arith}
use Rattle.std.specs.Prelude.{◌==◌}
use Rattle.std.proofs.lemmas.Bool.{eq-eqb}
use Rattle.std.proofs.lemmas.List.Elements.{Contains-append_cases, Contains-push_cases}
use Rattle.plan_run_laws.specs.RunPlans.{RunPlan, scan, values, remote, step, halves, join, union}
use Rattle.plan_link_laws.proofs.CountLemmas.{one_if}
use Rattle.net_laws.specs.JoinIds.{AreApart, JoinsApart, joins_of}
use Rattle.sieve_laws.specs.ComingDown.{ScansApart, scans_of}

abbrev pub ids_in : ℕ → List ℕ → ℕ
ids_in n [] = 0
ids_in n (id ∷ ids) = one_if (id == n) + ids_in n ids

pub ids_append : (n : ℕ) (xs ys : List ℕ) → ids_in n (xs ++ ys) ≡ ids_in n xs + ids_in n ys
ids_append n [] ys = omega arith
ids_append n (x ∷ xs) ys = omega (arith, ids_append n xs ys)

not_in : (n : ℕ) → Contains [] n → ⊥
not_in n (i, lt, is) = omega (arith, lt)

counted : (n : ℕ) (ids : List ℕ) → Contains ids n → 1 ≤ ids_in n ids
counted n [] there = absurd (not_in n there)
counted n (x ∷ xs) there = by (λ later. counted n xs later) (Contains-append_cases (x ∷ []) xs n there)
  where
    first : Contains [] n ⊎ (x ≡ n) → 1 ≤ ids_in n (x ∷ xs)
    first (inl none) = absurd (not_in n none)
    first (inr same) = let one = ap one_if (eq-eqb x n same) in omega (arith, one)

    by : (Contains xs n → 1 ≤ ids_in n xs) → Contains (x ∷ []) n ⊎ Contains xs n → 1 ≤ ids_in n (x ∷ xs)
    by rest (inl here) = first (Contains-push_cases [] x n here)
    by rest (inr later) = let more = rest later in omega (arith, more)

-- the ids of its scans and its joins
abbrev pub named_of : RunPlan → List ℕ
named_of (scan id table columns types) = id ∷ []
named_of (values id types rows) = []
named_of (remote id output m input) = named_of input
named_of (step id s input) = named_of input
named_of (join id kind on left right) = id ∷ named_of left ++ named_of right
named_of (halves id source output m h input) = named_of input
named_of (union id left right) = named_of left ++ named_of right

scans_named : (n : ℕ) (p : RunPlan) → ids_in n (scans_of p) ≤ ids_in n (named_of p)
scans_named n (scan id table columns types) = omega arith
scans_named n (values id types rows) = omega arith
scans_named n (remote id output m input) = scans_named n input
scans_named n (step id s input) = scans_named n input
scans_named n (join id kind on left right) =
    omega (arith, scans_named n left, scans_named n right, ids_append n (scans_of left) (scans_of right), ids_append n (named_of left) (named_of right))
scans_named n (halves id source output m h input) = scans_named n input
scans_named n (union id left right) =
    omega (arith, scans_named n left, scans_named n right, ids_append n (scans_of left) (scans_of right), ids_append n (named_of left) (named_of right))

joins_named : (n : ℕ) (p : RunPlan) → ids_in n (joins_of p) ≤ ids_in n (named_of p)
joins_named n (scan id table columns types) = omega arith
joins_named n (values id types rows) = omega arith
joins_named n (remote id output m input) = joins_named n input
joins_named n (step id s input) = joins_named n input
joins_named n (join id kind on left right) =
    omega (arith, joins_named n left, joins_named n right, ids_append n (joins_of left) (joins_of right), ids_append n (named_of left) (named_of right))
joins_named n (halves id source output m h input) = joins_named n input
joins_named n (union id left right) =
    omega (arith, joins_named n left, joins_named n right, ids_append n (joins_of left) (joins_of right), ids_append n (named_of left) (named_of right))

-- ids of two sides that are there once are not in both
sides_apart : (ids others : List ℕ) → ((n : ℕ) → ids_in n (ids ++ others) ≤ 1) → AreApart ids others
sides_apart ids others once id here there = omega (arith, once id, ids_append id ids others, counted id ids here, counted id others there)

left_once : (ids others : List ℕ) → ((n : ℕ) → ids_in n (ids ++ others) ≤ 1) → (n : ℕ) → ids_in n ids ≤ 1
left_once ids others once n = omega (arith, once n, ids_append n ids others)

right_once : (ids others : List ℕ) → ((n : ℕ) → ids_in n (ids ++ others) ≤ 1) → (n : ℕ) → ids_in n others ≤ 1
right_once ids others once n = omega (arith, once n, ids_append n ids others)

scans_once : (p : RunPlan) → ((n : ℕ) → ids_in n (scans_of p) ≤ 1) → ScansApart p
scans_once (scan id table columns types) once = tt
scans_once (values id types rows) once = tt
scans_once (remote id output m input) once = scans_once input once
scans_once (step id s input) once = scans_once input once
scans_once (join id kind on left right) once =
    (scans_once left (left_once (scans_of left) (scans_of right) once), scans_once right (right_once (scans_of left) (scans_of right) once), sides_apart (scans_of left) (scans_of right) once)
scans_once (halves id source output m h input) once = scans_once input once
scans_once (union id left right) once =
    (scans_once left (left_once (scans_of left) (scans_of right) once), scans_once right (right_once (scans_of left) (scans_of right) once), sides_apart (scans_of left) (scans_of right) once)

joins_once : (p : RunPlan) → ((n : ℕ) → ids_in n (joins_of p) ≤ 1) → JoinsApart p
joins_once (scan id table columns types) once = tt
joins_once (values id types rows) once = tt
joins_once (remote id output m input) once = joins_once input once
joins_once (step id s input) once = joins_once input once
joins_once (join id kind on left right) once =
    let below : (n : ℕ) → ids_in n (joins_of left ++ joins_of right) ≤ 1 = λ n. omega (arith, once n) in
    let new : Contains (joins_of left ++ joins_of right) id → ⊥ = λ there.
    let one = ap one_if (eq-eqb id id refl) in
    omega (arith, once id, one, counted id (joins_of left ++ joins_of right) there) in (
      joins_once left (left_once (joins_of left) (joins_of right) below),
      joins_once right (right_once (joins_of left) (joins_of right) below),
      new,
      sides_apart (joins_of left) (joins_of right) below,
    )
joins_once (halves id source output m h input) once = joins_once input once
joins_once (union id left right) once =
    (joins_once left (left_once (joins_of left) (joins_of right) once), joins_once right (right_once (joins_of left) (joins_of right) once), sides_apart (joins_of left) (joins_of right) once)

-- each id is that of one scan or join at most
abbrev pub AreNamedOnce : RunPlan → Type 0
AreNamedOnce p = (n : ℕ) → ids_in n (named_of p) ≤ 1

pub scans_apart : (p : RunPlan) → AreNamedOnce p → ScansApart p
scans_apart p once = scans_once p (λ n. omega (arith, once n, scans_named n p))

pub joins_apart : (p : RunPlan) → AreNamedOnce p → JoinsApart p
joins_apart p once = joins_once p (λ n. omega (arith, once n, joins_named n p))
