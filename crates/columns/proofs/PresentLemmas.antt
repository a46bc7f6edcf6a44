-- Items and their marks, cut and joined side by side.
use Rattle.std.proofs.Common.{◌≡◌, ℕ, ◌<◌, Bool, true, false, List, [], ◌∷◌, ◌++◌, Option, Some, None, length, get_or, take, drop, map, refl, ap, sym, ◌∙◌, arith, zero, suc}
use Rattle.std.specs.Prelude.{is_none, All}
use Rattle.columns.specs.Present.{unless, present, gather}

pub length-present : {A : Type 0} (xs : List A) (bs : List Bool) → length xs ≡ length bs → length (present xs bs) ≡ length bs
length-present [] [] h = refl
length-present [] (b ∷ bs) h = cc
length-present (x ∷ xs) [] h = cc
length-present (x ∷ xs) (b ∷ bs) h = ap suc (length-present xs bs (omega arith))

pub present-append : {A : Type 0} (xs ys : List A) (bs cs : List Bool) → length xs ≡ length bs → present (xs ++ ys) (bs ++ cs) ≡ present xs bs ++ present ys cs
present-append [] ys [] cs h = refl
present-append [] ys (b ∷ bs) cs h = cc
present-append (x ∷ xs) ys [] cs h = cc
present-append (x ∷ xs) ys (b ∷ bs) cs h = ap (λ vs. unless b x ∷ vs) (present-append xs ys bs cs (omega arith))

pub present-take : {A : Type 0} (n : ℕ) (xs : List A) (bs : List Bool) → present (take n xs) (take n bs) ≡ take n (present xs bs)
present-take zero xs bs = refl
present-take (suc n) [] bs = refl
present-take (suc n) (x ∷ xs) [] = refl
present-take (suc n) (x ∷ xs) (b ∷ bs) = ap (λ vs. unless b x ∷ vs) (present-take n xs bs)

present-nil : {A : Type 0} (xs : List A) → present xs [] ≡ []
present-nil [] = refl
present-nil (x ∷ xs) = refl

pub present-drop : {A : Type 0} (n : ℕ) (xs : List A) (bs : List Bool) → present (drop n xs) (drop n bs) ≡ drop n (present xs bs)
present-drop zero xs bs = refl
present-drop (suc n) [] bs = refl
present-drop (suc n) (x ∷ xs) [] = present-nil (drop n xs)
present-drop (suc n) (x ∷ xs) (b ∷ bs) = present-drop n xs bs

-- an item that is read beside its mark
pub get_or-present : {A : Type 0} (xs : List A) (bs : List Bool) (i : ℕ) (x : A) (b : Bool) (o : Option A) → i < length bs → length xs ≡ length bs → get_or (present xs bs) i o ≡ unless (get_or bs i b) (get_or xs i x)
get_or-present [] [] i x b o l h = absurd (omega arith)
get_or-present [] (c ∷ bs) i x b o l h = cc
get_or-present (y ∷ xs) [] i x b o l h = cc
get_or-present (y ∷ xs) (c ∷ bs) zero x b o l h = refl
get_or-present (y ∷ xs) (c ∷ bs) (suc i) x b o l h = get_or-present xs bs i x b o (omega arith) (omega arith)

-- what reading a mark, and an item that is not marked, says of the value
pub present-read_missing : {A : Type 0} (xs : List A) (bs : List Bool) (i : ℕ) (o : Option A) → i < length bs → length xs ≡ length bs → true ≡ get_or bs i true → get_or (present xs bs) i o ≡ None
present-read_missing [] [] i o l h r = absurd (omega arith)
present-read_missing [] (c ∷ bs) i o l h r = cc
present-read_missing (y ∷ xs) [] i o l h r = cc
present-read_missing (y ∷ xs) (c ∷ bs) zero o l h r = ap (λ b. unless b y) (sym r)
present-read_missing (y ∷ xs) (c ∷ bs) (suc i) o l h r = present-read_missing xs bs i o (omega arith) (omega arith) r

pub present-read_item : {A : Type 0} (xs : List A) (bs : List Bool) (i : ℕ) (x : A) (o : Option A) → i < length bs → length xs ≡ length bs → false ≡ get_or bs i false → x ≡ get_or xs i x → get_or (present xs bs) i o ≡ Some x
present-read_item [] [] i x o l h r e = absurd (omega arith)
present-read_item [] (c ∷ bs) i x o l h r e = cc
present-read_item (y ∷ xs) [] i x o l h r e = cc
present-read_item (y ∷ xs) (c ∷ bs) zero x o l h r e = ap (λ b. unless b y) (sym r) ∙ ap Some (sym e)
present-read_item (y ∷ xs) (c ∷ bs) (suc i) x o l h r e = present-read_item xs bs i x o (omega arith) (omega arith) r e

pub ruleset reads = (present-read_missing, present-read_item)

is_none-unless : {A : Type 0} (b : Bool) (x : A) → is_none (unless b x) ≡ b
is_none-unless true x = refl
is_none-unless false x = refl

pub map-is_none-present : {A : Type 0} (xs : List A) (bs : List Bool) → length xs ≡ length bs → map is_none (present xs bs) ≡ bs
map-is_none-present [] [] h = refl
map-is_none-present [] (b ∷ bs) h = cc
map-is_none-present (x ∷ xs) [] h = cc
map-is_none-present (x ∷ xs) (b ∷ bs) h = cc (is_none-unless b x, map-is_none-present xs bs (omega arith))

pub present-map-is_none : {A : Type 0} (xs : List A) (bs : List Bool) → length xs ≡ length bs → present xs (map is_none (present xs bs)) ≡ present xs bs
present-map-is_none xs bs h = ap (present xs) (map-is_none-present xs bs h)

pub ruleset presents = (length-present, present-append, present-take, present-drop, map-is_none-present, present-map-is_none)

All-rest : (n p : ℕ) (ps : List ℕ) → All (λ q. q < n) (p ∷ ps) → All (λ q. q < n) ps
All-rest n p ps h = λ k d l. h (suc k) d (omega arith)

-- the elements at places, beside their marks at the same places
pub present-gather_all : {A : Type 0} (xs : List A) (bs : List Bool) (d : A) (b : Bool) (ps : List ℕ) → length xs ≡ length bs → All (λ p. p < length bs) ps → present (gather xs d ps) (gather bs b ps) ≡ gather (present xs bs) None ps
present-gather_all xs bs d b [] h r = refl
present-gather_all xs bs d b (p ∷ ps) h r =
    cc (get_or-present xs bs p d b None (r zero 0 (omega arith)) h, present-gather_all xs bs d b ps h (All-rest (length bs) p ps r))

-- the same where the items are known to be those at the places for every default
pub present-gather : {A : Type 0} (xs ys : List A) (bs cs : List Bool) (ps : List ℕ) → length xs ≡ length bs → All (λ p. p < length bs) ps → length ys ≡ length ps → ((d : A) → ys ≡ gather xs d ps) → ((b : Bool) → cs ≡ gather bs b ps) → present ys cs ≡ gather (present xs bs) None ps
present-gather xs [] bs cs [] h r l e f = refl
present-gather xs (y ∷ ys) bs cs [] h r l e f = cc
present-gather [] ys bs cs (p ∷ ps) h r l e f = let w : get_or (p ∷ ps) zero 0 < length bs = r zero 0 (omega arith) in absurd (omega arith)
present-gather (x ∷ xs) ys bs cs (p ∷ ps) h r l e f =
    rw (e x, f true) (present-gather_all (x ∷ xs) bs x true (p ∷ ps) h r)

pub All-within : (n m : ℕ) (ps : List ℕ) → n ≡ m → All (λ p. p < n) ps → All (λ p. p < m) ps
All-within n m ps e r = λ k d l. let w : get_or ps k d < n = r k d l in omega arith

get_or-mapped : {A B : Type 0} (f : A → B) (xs : List A) (i : ℕ) (d : A) → f (get_or xs i d) ≡ get_or (map f xs) i (f d)
get_or-mapped f [] i d = refl
get_or-mapped f (x ∷ xs) zero d = refl
get_or-mapped f (x ∷ xs) (suc i) d = get_or-mapped f xs i d

-- the elements at places, each made into another by one function
pub map-gather : {A B : Type 0} (f : A → B) (xs : List A) (d : A) (ps : List ℕ) → map f (gather xs d ps) ≡ gather (map f xs) (f d) ps
map-gather f xs d [] = refl
map-gather f xs d (p ∷ ps) = cc (get_or-mapped f xs p d, map-gather f xs d ps)
