-- What holds of each item of a list holds of each of its parts.
use Rattle.std.proofs.Common.{◌≡◌, ℕ, zero, suc, List, [], ◌∷◌, ◌++◌, Bool, true, false, cond, Option, Some, None, refl, subst}
use Rattle.std.specs.Prelude.{slice_get, ◌&&◌, ◌||◌}
use Rattle.std.specs.List.{find, flat_map, list_all}

abbrev pub Each : {A : Type 0} → (A → Type 0) → List A → Type 0
Each P [] = Unit {0}
Each P (x ∷ xs) = P x × Each P xs

pub each_left : {A : Type 0} (P : A → Type 0) (xs ys : List A) → Each P (xs ++ ys) → Each P xs
each_left P [] ys h = tt
each_left P (x ∷ xs) ys h = (h.0, each_left P xs ys h.1)

pub each_right : {A : Type 0} (P : A → Type 0) (xs ys : List A) → Each P (xs ++ ys) → Each P ys
each_right P [] ys h = h
each_right P (x ∷ xs) ys h = each_right P xs ys h.1

pub each_join : {A : Type 0} (P : A → Type 0) (xs ys : List A) → Each P xs → Each P ys → Each P (xs ++ ys)
each_join P [] ys h g = g
each_join P (x ∷ xs) ys h g = (h.0, each_join P xs ys h.1 g)

pub each_at : {A : Type 0} (P : A → Type 0) (xs : List A) (i : ℕ) (x : A) → slice_get xs i ≡ Some x → Each P xs → P x
each_at P [] i x is h = absurd cc
each_at P (y ∷ xs) zero x is h = let same : y ≡ x = cc is in subst P same h.0
each_at P (y ∷ xs) (suc i) x is h = each_at P xs i x is h.1

pub each_by : {A : Type 0} (P : A → Type 0) (xs : List A) → ((i : ℕ) (x : A) → slice_get xs i ≡ Some x → P x) → Each P xs
each_by P [] one = tt
each_by P (x ∷ xs) one = (one 0 x refl, each_by P xs (λ i y is. one (suc i) y is))

pub each_weaker : {A : Type 0} (P Q : A → Type 0) → ((x : A) → P x → Q x) → (xs : List A) → Each P xs → Each Q xs
each_weaker P Q weaker [] each = tt
each_weaker P Q weaker (x ∷ xs) each = (weaker x each.0, each_weaker P Q weaker xs each.1)

-- in the parts of which a list is put together
pub each_part : {A B : Type 0} (P : B → Type 0) (f : A → List B) (xs : List A) (i : ℕ) (x : A) → slice_get xs i ≡ Some x → Each P (flat_map f xs) → Each P (f x)
each_part P f [] i x is h = absurd cc
each_part P f (y ∷ xs) zero x is h =
    let same : y ≡ x = cc is in subst (λ z. Each P (f z)) same (each_left P (f y) (flat_map f xs) h)
each_part P f (y ∷ xs) (suc i) x is h = each_part P f xs i x is (each_right P (f y) (flat_map f xs) h)

pub each_again : {A B : Type 0} (P Q : B → Type 0) (f : A → List B) (xs : List A) → Each P (flat_map f xs)
    → ((i : ℕ) (x : A) → slice_get xs i ≡ Some x → Each P (f x) → Each Q (f x)) → Each Q (flat_map f xs)
each_again P Q f [] h one = tt
each_again P Q f (x ∷ xs) h one =
    each_join Q (f x) (flat_map f xs) (one 0 x refl (each_left P (f x) (flat_map f xs) h))
    (each_again P Q f xs (each_right P (f x) (flat_map f xs) h) (λ i y is g. one (suc i) y is g))

pub first_false : {A : Type 0} (b : Bool) (x : A) (r : Option A) → cond b (Some x) r ≡ None → b ≡ false
first_false true x r e = cc
first_false false x r e = refl

pub rest_none : {A : Type 0} (b : Bool) (x : A) (r : Option A) → cond b (Some x) r ≡ None → r ≡ None
rest_none true x r e = cc
rest_none false x r e = e

-- a test that finds nothing fails at each item
pub none_passes : {A : Type 0} (test : A → Bool) (xs : List A) (i : ℕ) (x : A) → find test xs ≡ None → slice_get xs i ≡ Some x → test x ≡ false
none_passes test [] i x e is = absurd cc
none_passes test (y ∷ xs) zero x e is =
    let same : y ≡ x = cc is in subst (λ z. test z ≡ false) same (first_false (test y) y (find test xs) e)
none_passes test (y ∷ xs) (suc i) x e is = none_passes test xs i x (rest_none (test y) y (find test xs) e) is

pub first_true : (a b : Bool) → a && b ≡ true → a ≡ true
first_true true b h = refl
first_true false b h = h

pub second_true : (a b : Bool) → a && b ≡ true → b ≡ true
second_true true b h = h
second_true false b h = absurd cc

pub neither : (a b : Bool) → a || b ≡ false → a ≡ false
neither true b h = h
neither false b h = refl

pub nor_second : (a b : Bool) → a || b ≡ false → b ≡ false
nor_second true b h = absurd cc
nor_second false b h = h

-- and one that all pass, at each
pub all_pass : {A : Type 0} (test : A → Bool) (xs : List A) (i : ℕ) (x : A) → list_all test xs ≡ true → slice_get xs i ≡ Some x → test x ≡ true
all_pass test [] i x e is = absurd cc
all_pass test (y ∷ xs) zero x e is = let same : y ≡ x = cc is in subst (λ z. test z ≡ true) same (first_true (test y) (list_all test xs) e)
all_pass test (y ∷ xs) (suc i) x e is = all_pass test xs i x (second_true (test y) (list_all test xs) e) is
