-- Pieces of one buffer: read, appended, cut, and counted from another start.
use Rattle.std.proofs.Common.{◌≡◌, ℕ, ◌+◌, ◌-◌, ◌<◌, ◌≤◌, List, [], ◌∷◌, ◌++◌, length, get_or, take, drop, map, refl, ap, sym, ◌∙◌, arith, zero, suc, length-drop}
use Rattle.std.proofs.lemmas.List.{drop-drop, drop_at, drop-append-le, take-append-le, take-take, drop-take}
use Rattle.std.specs.Str.{IsUtf8}
use Rattle.columns.specs.Pieces.{pieces, EndsRise, EachUtf8}

pub rise-start : (f : ℕ) (es : List ℕ) (n : ℕ) → EndsRise f es n → f ≤ n
rise-start f [] n r = omega arith
rise-start f (e ∷ es) n r = let rest = rise-start e es n r.1 in omega arith

-- a piece begins before it ends, and ends within the buffer
pub rise-at : (f : ℕ) (es : List ℕ) (n i : ℕ) → EndsRise f es n → i < length es → (get_or (f ∷ es) i 0 ≤ get_or es i 0) × (get_or es i 0 ≤ n)
rise-at f [] n i r l = absurd (omega arith)
rise-at f (e ∷ es) n zero r l = (r.0, rise-start e es n r.1)
rise-at f (e ∷ es) n (suc i) r l = rise-at e es n i r.1 (omega arith)

-- starts rise too
pub rise-between : (f : ℕ) (es : List ℕ) (n i j : ℕ) → EndsRise f es n → i ≤ j → j ≤ length es → (get_or (f ∷ es) i 0 ≤ get_or (f ∷ es) j 0) × (get_or (f ∷ es) j 0 ≤ n)
rise-between f es n zero zero r l m = (omega arith, rise-start f es n r)
rise-between f es n (suc i) zero r l m = absurd (omega arith)
rise-between f [] n i (suc j) r l m = absurd (omega arith)
rise-between f (e ∷ es) n zero (suc j) r l m = let rest = rise-between e es n zero j r.1 (omega arith) (omega arith) in (omega (arith, r.0, rest.0), rest.1)
rise-between f (e ∷ es) n (suc i) (suc j) r l m = rise-between e es n i j r.1 (omega arith) (omega arith)

pub length-pieces : (f : ℕ) (es bs : List ℕ) → length (pieces f es bs) ≡ length es
length-pieces f [] bs = refl
length-pieces f (e ∷ es) bs = ap suc (length-pieces e es bs)

pub get_or-pieces : (f : ℕ) (es bs : List ℕ) (i : ℕ) (d : List ℕ) → i < length es → get_or (pieces f es bs) i d ≡ take (get_or es i 0 - get_or (f ∷ es) i 0) (drop (get_or (f ∷ es) i 0) bs)
get_or-pieces f [] bs i d l = absurd (omega arith)
get_or-pieces f (e ∷ es) bs zero d l = refl
get_or-pieces f (e ∷ es) bs (suc i) d l = get_or-pieces e es bs i d (omega arith)

-- appending: the ends that are added count on from the buffer's length
rise-shift : (k f g : ℕ) (es : List ℕ) (n m : ℕ) → g ≡ f + k → m ≡ n + k → EndsRise f es n → EndsRise g (map (λ e. e + k) es) m
rise-shift k f g [] n m h e r = omega arith
rise-shift k f g (x ∷ es) n m h e r = (omega (arith, r.0), rise-shift k x (x + k) es n m refl e r.1)

pub rise-append : (f : ℕ) (es : List ℕ) (n : ℕ) (gs : List ℕ) (m t : ℕ) → t ≡ m + n → EndsRise f es n → EndsRise 0 gs m → EndsRise f (es ++ map (λ e. e + n) gs) t
rise-append f [] n gs m t h r s = rise-shift n 0 f gs m t (omega arith) h s
rise-append f (e ∷ es) n gs m t h r s = (r.0, rise-append e es n gs m t h r.1 s)

drop-past : (f k : ℕ) (bs cs : List ℕ) → length bs ≡ k → drop (f + k) (bs ++ cs) ≡ drop f cs
drop-past f k bs cs h =
    let e : f + k ≡ k + f = omega arith in
    ap (λ n. drop n (bs ++ cs)) e ∙ sym (drop-drop f k (bs ++ cs)) ∙ ap (drop f) (drop_at bs cs k h)

pieces-shift : (k f g : ℕ) (es bs cs : List ℕ) → g ≡ f + k → length bs ≡ k → pieces g (map (λ e. e + k) es) (bs ++ cs) ≡ pieces f es cs
pieces-shift k f g [] bs cs h l = refl
pieces-shift k f g (e ∷ es) bs cs h l =
    let width : (e + k) - g ≡ e - f = omega arith in
    let from : drop g (bs ++ cs) ≡ drop f cs = ap (λ n. drop n (bs ++ cs)) h ∙ drop-past f k bs cs l in
    cc (pieces-shift k e (e + k) es bs cs refl l)

piece-within : (f e : ℕ) (bs cs : List ℕ) → f ≤ e → e ≤ length bs → take (e - f) (drop f (bs ++ cs)) ≡ take (e - f) (drop f bs)
piece-within f e bs cs h l =
    ap (take (e - f)) (drop-append-le f bs cs (omega arith)) ∙ take-append-le (e - f) (drop f bs) cs (omega (arith, length-drop f bs))

pub pieces-append : (f : ℕ) (es gs bs cs : List ℕ) → EndsRise f es (length bs) → pieces f (es ++ map (λ e. e + length bs) gs) (bs ++ cs) ≡ pieces f es bs ++ pieces 0 gs cs
pieces-append f [] gs bs cs r = pieces-shift (length bs) 0 f gs bs cs (omega arith) refl
pieces-append f (e ∷ es) gs bs cs r = cc (piece-within f e bs cs r.0 (rise-start e es (length bs) r.1), pieces-append e es gs bs cs r.1)

-- the first pieces
pub rise-take : (f : ℕ) (es : List ℕ) (n m : ℕ) → EndsRise f es n → m ≤ length es → EndsRise f (take m es) (get_or (f ∷ es) m 0)
rise-take f es n zero r l = refl
rise-take f [] n (suc m) r l = absurd (omega arith)
rise-take f (e ∷ es) n (suc m) r l = (r.0, rise-take e es n m r.1 (omega arith))

piece-of_take : (f e s : ℕ) (bs : List ℕ) → f ≤ e → e ≤ s → take (e - f) (drop f (take s bs)) ≡ take (e - f) (drop f bs)
piece-of_take f e s bs h l =
    let split : s ≡ f + (s - f) = omega arith in
    ap (λ n. take (e - f) (drop f (take n bs))) split ∙ ap (take (e - f)) (drop-take f (s - f) bs) ∙ take-take (e - f) (s - f) (drop f bs) (omega arith)

pub pieces-take : (f : ℕ) (es : List ℕ) (n m : ℕ) (bs : List ℕ) → EndsRise f es n → m ≤ length es → pieces f (take m es) (take (get_or (f ∷ es) m 0) bs) ≡ take m (pieces f es bs)
pieces-take f es n zero bs r l = refl
pieces-take f [] n (suc m) bs r l = absurd (omega arith)
pieces-take f (e ∷ es) n (suc m) bs r l =
    cc (piece-of_take f e (get_or (e ∷ es) m 0) bs r.0 (rise-between e es n zero m r.1 (omega arith) (omega arith)).0, pieces-take e es n m bs r.1 (omega arith))

-- the last pieces
pub rise-drop : (f : ℕ) (es : List ℕ) (n m : ℕ) → EndsRise f es n → m ≤ length es → EndsRise (get_or (f ∷ es) m 0) (drop m es) n
rise-drop f es n zero r l = r
rise-drop f [] n (suc m) r l = absurd (omega arith)
rise-drop f (e ∷ es) n (suc m) r l = rise-drop e es n m r.1 (omega arith)

pub pieces-drop : (f : ℕ) (es : List ℕ) (m : ℕ) (bs : List ℕ) → m ≤ length es → pieces (get_or (f ∷ es) m 0) (drop m es) bs ≡ drop m (pieces f es bs)
pieces-drop f es zero bs l = refl
pieces-drop f [] (suc m) bs l = absurd (omega arith)
pieces-drop f (e ∷ es) (suc m) bs l = pieces-drop e es m bs (omega arith)

-- the same pieces, counted from a start
pub rise-from : (s f : ℕ) (es : List ℕ) (n : ℕ) → s ≤ f → EndsRise f es n → EndsRise (f - s) (map (λ e. e - s) es) (n - s)
rise-from s f [] n h r = omega arith
rise-from s f (e ∷ es) n h r = (omega (arith, r.0), rise-from s e es n (omega (arith, r.0)) r.1)

pub pieces-from : (s f : ℕ) (es : List ℕ) (n : ℕ) (bs : List ℕ) → s ≤ f → EndsRise f es n → pieces (f - s) (map (λ e. e - s) es) (drop s bs) ≡ pieces f es bs
pieces-from s f [] n bs h r = refl
pieces-from s f (e ∷ es) n bs h r =
    let order : f ≤ e = r.0 in
    let width : (e - s) - (f - s) ≡ e - f = omega arith in
    let place : s + (f - s) ≡ f = omega arith in
    let from : drop (f - s) (drop s bs) ≡ drop f bs = drop-drop (f - s) s bs ∙ ap (λ n. drop n bs) place in
    cc (pieces-from s e es n bs (omega arith) r.1)

pub EachUtf8-append : (ss ts : List (List ℕ)) → EachUtf8 ss → EachUtf8 ts → EachUtf8 (ss ++ ts)
EachUtf8-append [] ts u v = v
EachUtf8-append (s ∷ ss) ts u v = (u.0, EachUtf8-append ss ts u.1 v)

pub EachUtf8-take : (n : ℕ) (ts : List (List ℕ)) → EachUtf8 ts → EachUtf8 (take n ts)
EachUtf8-take zero ts u = tt
EachUtf8-take (suc n) [] u = tt
EachUtf8-take (suc n) (t ∷ ts) u = (u.0, EachUtf8-take n ts u.1)

pub EachUtf8-drop : (n : ℕ) (ts : List (List ℕ)) → EachUtf8 ts → EachUtf8 (drop n ts)
EachUtf8-drop zero ts u = u
EachUtf8-drop (suc n) [] u = tt
EachUtf8-drop (suc n) (t ∷ ts) u = EachUtf8-drop n ts u.1

pub EachUtf8-at : (ts : List (List ℕ)) (i : ℕ) (d : List ℕ) → EachUtf8 ts → i < length ts → IsUtf8 (get_or ts i d)
EachUtf8-at [] i d u l = absurd (omega arith)
EachUtf8-at (t ∷ ts) zero d u l = u.0
EachUtf8-at (t ∷ ts) (suc i) d u l = EachUtf8-at ts i d u.1 (omega arith)
