-- The state at a place, among those of all groups.
use Rattle.std.proofs.Common.{◌≡◌, ℕ, ◌<◌, ◌≤◌, zero, suc, List, [], ◌∷◌, ◌++◌, length, get_or, set, take, map, refl, ap, sym, subst, ◌∙◌, ◌+◌, arith}
use Rattle.std.specs.Prelude.{replicate, Result, Ok, Err, OnErr, OnOk}
use Rattle.std.proofs.lemmas.List.{get_or-map, map-append, map-set, replicate-append-replicate, take-replicate}
use Rattle.sql_values.specs.declared.value.Value.{Value}

pub set-again : {X : Type 0} (xs : List X) (i : ℕ) (x y : X) → set (set xs i x) i y ≡ set xs i y
set-again [] i x y = refl
set-again (z ∷ xs) zero x y = refl
set-again (z ∷ xs) (suc i) x y = ap (λ l. z ∷ l) (set-again xs i x y)

module _ {X : Type 0} (f : X → List Value) (xs : List X) (i : ℕ) (x : X) where
  -- one that was written, by its columns
  pub put-at : (d : X) (next : List Value → List Value) → i < length xs → d ≡ get_or xs i d → f x ≡ next (f d) → map f (set xs i x) ≡ set (map f xs) i (next (get_or (map f xs) i []))
  put-at d next lt is e = map-set f xs i x ∙ ap (set (map f xs) i) (e ∙ ap next (ap f is ∙ sym (get_or-map f xs i d [] lt)))

  -- and the others
  pub put-others : (v : List Value) → set (map f (set xs i x)) i v ≡ set (map f xs) i v
  put-others v = ap (λ l. set l i v) (map-set f xs i x) ∙ set-again (map f xs) i (f x) v

pub map-take : {X : Type 0} (f : X → List Value) (xs : List X) (n : ℕ) → map f (take n xs) ≡ take n (map f xs)
map-take f [] zero = refl
map-take f [] (suc n) = refl
map-take f (x ∷ xs) zero = refl
map-take f (x ∷ xs) (suc n) = ap (λ l. f x ∷ l) (map-take f xs n)

-- a list of what is kept where nothing is
pub none-put : (n i : ℕ) → ◌≡◌ {A = List (List Value)} (replicate n []) (set (replicate n []) i [])
none-put zero i = refl
none-put (suc n) zero = refl
none-put (suc n) (suc i) = ap (λ l. [] ∷ l) (none-put n i)

-- a new group behind the first
module _ {X : Type 0} (f : X → List Value) (xs now : List X) (n : ℕ) where
  pub begun : (x : X) → now ≡ take n xs ++ x ∷ [] → map f now ≡ take n (map f xs) ++ f x ∷ []
  begun x e = ap (map f) e ∙ map-append f (take n xs) (x ∷ []) ∙ ap (λ l. l ++ f x ∷ []) (map-take f xs n)

  pub first-begun : take n now ≡ take n xs → take n (map f now) ≡ take n (map f xs)
  first-begun e = sym (map-take f now n) ∙ ap (map f) e ∙ map-take f xs n

pub none-begun : (n groups : ℕ) → n ≤ groups → ◌≡◌ {A = List (List Value)} (replicate (n + 1) []) (take n (replicate groups []) ++ [] ∷ [])
none-begun n groups le = sym (ap (λ l. l ++ [] ∷ []) (take-replicate n groups [] le) ∙ replicate-append-replicate n 1 [])

pub none-first : (n groups : ℕ) → n ≤ groups → ◌≡◌ {A = List (List Value)} (take n (replicate (n + 1) [])) (take n (replicate groups []))
none-first n groups le = take-replicate n (n + 1) [] (omega arith) ∙ sym (take-replicate n groups [] le)

-- where a call went well
ok_then : {A E : Type 0} (r : Result A E) {P Q : Type 0} → (P → Q) → OnOk r P → OnOk r Q
ok_then (Ok a) f h = f h
ok_then (Err b) f h = h

pub ok_from : {A E : Type 0} (r other : Result A E) {P Q : Type 0} → r ≡ other → (P → Q) → OnOk other P → OnOk r Q
ok_from r other {Q = Q} e f h = subst (λ x. OnOk x Q) (sym e) (ok_then other f h)

pub err_from : {A E : Type 0} (r : Result A E) {P : Type 0} → P → OnErr r P
err_from (Ok a) h = tt
err_from (Err b) h = h
