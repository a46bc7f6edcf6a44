-- One write after the other.
use Rattle.std.proofs.Common.{◌≡◌, ℕ, zero, suc, List, [], ◌∷◌, ◌++◌, take, Option, Some, None, Result, Ok, Err, OnOk, OnErr, ◌∙◌, ap, refl, subst, sym}
use Rattle.std.proofs.lemmas.List.{append_assoc}
use Rattle.std.specs.Io.KnownBytes.{Appends}
use Rattle.run_ports.specs.Writing.{AppendsPrefix}

pub both : (a b c : Option (List ℕ)) (xs ys : List ℕ) → Appends a b xs → Appends b c ys → Appends a c (xs ++ ys)
both None b c xs ys h k = tt
both (Some s) None c xs ys h k = absurd h
both (Some s) (Some t) None xs ys h k = absurd k
both (Some s) (Some t) (Some u) xs ys h k = k ∙ ap (λ w. w ++ ys) h ∙ append_assoc s xs ys

-- the last write gives the answer
pub after : {A E : Type 0} (a b c : Option (List ℕ)) (xs ys : List ℕ) (r : Result A E)
    → Appends a b xs → OnOk r (Appends b c ys) → OnOk r (Appends a c (xs ++ ys))
after a b c xs ys (Ok x) h k = both a b c xs ys h k
after a b c xs ys (Err e) h k = tt

-- so many of the first bytes are a beginning of all
cut : (n : ℕ) (xs ys : List ℕ) → (m : ℕ) × (take m (xs ++ ys) ≡ take n xs)
cut zero xs ys = (0, refl)
cut (suc n) [] ys = (0, refl)
cut (suc n) (x ∷ xs) ys = let h = cut n xs ys in (suc h.0, ap (λ l. x ∷ l) h.1)

-- all of the first bytes and so many of the others are a beginning of all
reach : (n : ℕ) (xs ys : List ℕ) → (m : ℕ) × (take m (xs ++ ys) ≡ xs ++ take n ys)
reach n [] ys = (n, refl)
reach n (x ∷ xs) ys = let h = reach n xs ys in (suc h.0, ap (λ l. x ∷ l) h.1)

whole : (xs : List ℕ) → (m : ℕ) × (take m xs ≡ xs)
whole [] = (0, refl)
whole (x ∷ xs) = let h = whole xs in (suc h.0, ap (λ l. x ∷ l) h.1)

-- what is a beginning of some bytes is one of these and more
pub widen : (a b : Option (List ℕ)) (xs ys : List ℕ) → AppendsPrefix a b xs → AppendsPrefix a b (xs ++ ys)
widen a b xs ys p = let h = cut p.0 xs ys in (h.0, subst (λ w. Appends a b w) (sym h.1) p.1)

-- some bytes, and then a beginning of others
pub onward : (a b c : Option (List ℕ)) (xs ys : List ℕ) → Appends a b xs → AppendsPrefix b c ys → AppendsPrefix a c (xs ++ ys)
onward a b c xs ys h p =
    let k = reach p.0 xs ys in
    (k.0, subst (λ w. Appends a c w) (sym k.1) (both a b c xs (take p.0 ys) h p.1))

pub on_err : {A E P : Type 0} (r : Result A E) → P → OnErr r P
on_err (Ok x) p = tt
on_err (Err e) p = p

-- the last write may have failed
pub last : {A E : Type 0} (a b c : Option (List ℕ)) (xs ys : List ℕ) (r : Result A E)
    → Appends a b xs → OnErr r (AppendsPrefix b c ys) → OnErr r (AppendsPrefix a c (xs ++ ys))
last a b c xs ys (Ok x) h k = tt
last a b c xs ys (Err e) h k = onward a b c xs ys h k

-- whether a write failed or not, a beginning was written
pub begun : {A E : Type 0} (a b : Option (List ℕ)) (xs : List ℕ) (r : Result A E)
    → OnOk r (Appends a b xs) → OnErr r (AppendsPrefix a b xs) → AppendsPrefix a b xs
begun a b xs (Ok x) h k = let w = whole xs in (w.0, subst (λ ys. Appends a b ys) (sym w.1) h)
begun a b xs (Err e) h k = k

-- where no fault is counted, no write failed
pub if_none_failed : {A E P Q : Type 0} (r : Result A E) → OnOk r P → OnErr r Q → ¬ Q → P
if_none_failed (Ok x) p q never = p
if_none_failed (Err e) p q never = absurd (never q)
