-- Columns of one length and their rows: a cell more, a row more, rows cut out and read.
use Rattle.std.proofs.Common.{◌≡◌, ℕ, ◌+◌, ◌-◌, ◌<◌, ◌≤◌, Bool, true, false, List, [], ◌∷◌, ◌++◌, length, get_or, set, take, drop, map, min, refl, ap, sym, ◌∙◌, append_assoc, length-append, length-drop, length-take, add-one, arith, zero, suc}
use Rattle.std.specs.Prelude.{All, replicate, ◌&&◌, ◌↔◌, IsTrue, Some, None, option_map, slice_get}
use Rattle.std.proofs.lemmas.Option.{slice_get-map}
use Rattle.std.proofs.lemmas.List.{length-map, length-set, length-replicate, get_or-replicate, take-replicate, drop-replicate, drop_all, drop_at, take_all, take_min, take_more, take-map, drop-map, take-take, nil_from_length}
use Rattle.columns.specs.Present.{gather}
use Rattle.sql_values.specs.declared.types.SqlType.{SqlType}
use Rattle.sql_values.specs.declared.value.Value.{Value}
use Rattle.sql_values.specs.declared.value.Value.TheVariants.{Null}
use Rattle.sql_values.specs.Cells.{cell}
use Rattle.sql_values.specs.Blocks.{TypedCells, fits, with_cells}
use Rattle.sql_values.specs.ColumnRows.{TypedRows, cons_each, rows_of, kinds_of, begun_of, AreFilled, common_length, fits_at, fits_row, AreColumns}

cons_each-nil : (vs : List Value) → cons_each vs [] ≡ []
cons_each-nil [] = refl
cons_each-nil (v ∷ vs) = refl

length-cons_each : (vs : List Value) (rows : List (List Value)) → length rows ≤ length vs → length (cons_each vs rows) ≡ length rows
length-cons_each [] [] h = refl
length-cons_each [] (r ∷ rs) h = absurd (omega arith)
length-cons_each (v ∷ vs) [] h = refl
length-cons_each (v ∷ vs) (r ∷ rs) h = ap suc (length-cons_each vs rs (omega arith))

-- each column has at least n cells
abbrev pub HaveCells : ℕ → List TypedCells → Type 0
HaveCells n [] = Unit {0}
HaveCells n (c ∷ cs) = (n ≤ length c.cells) × HaveCells n cs

pub filled-have : (n k : ℕ) (cs : List TypedCells) → AreFilled n k cs → HaveCells n cs
filled-have n k [] f = tt
filled-have n zero (c ∷ cs) f = (omega (arith, f.0), filled-have n zero cs f.1)
filled-have n (suc k) (c ∷ cs) f = (omega (arith, f.0), filled-have n k cs f.1)

have-length : (n : ℕ) (cs : List TypedCells) → HaveCells n cs → length (rows_of n cs) ≡ n
have-length n [] h = length-replicate n []
have-length n (c ∷ cs) h = let e = have-length n cs h.1 in length-cons_each c.cells (rows_of n cs) (omega (arith, h.0)) ∙ e

pub length-rows_of : (n k : ℕ) (cs : List TypedCells) → AreFilled n k cs → length (rows_of n cs) ≡ n
length-rows_of n k cs f = have-length n cs (filled-have n k cs f)

-- a cell more in column k
pub kinds-put : (cs : List TypedCells) (k : ℕ) (c : TypedCells) (vs : List Value) → c ≡ get_or cs k c → kinds_of (set cs k (with_cells c vs)) ≡ kinds_of cs
kinds-put [] k c vs h = refl
kinds-put (b ∷ cs) zero c vs h = ap (λ (x : TypedCells). x.kind ∷ kinds_of cs) h
kinds-put (b ∷ cs) (suc k) c vs h = ap (λ ks. b.kind ∷ ks) (kinds-put cs k c vs h)

pub filled-put : (n k : ℕ) (cs : List TypedCells) (c : TypedCells) (v : Value) → c ≡ get_or cs k c → k < length cs → AreFilled n k cs → AreFilled n (suc k) (set cs k (with_cells c (c.cells ++ v ∷ [])))
filled-put n k [] c v h l f = absurd (omega arith)
filled-put n zero (b ∷ cs) c v h l f =
    let e : length c.cells ≡ n = ap (λ (x : TypedCells). length x.cells) h ∙ f.0 in (omega (arith, length-append c.cells (v ∷ [])), f.1)
filled-put n (suc k) (b ∷ cs) c v h l f = (f.0, filled-put n k cs c v h (omega arith) f.1)

cons_each-append : (vs ws : List Value) (rows : List (List Value)) → length rows ≤ length vs → cons_each (vs ++ ws) rows ≡ cons_each vs rows
cons_each-append [] ws [] h = cons_each-nil ws
cons_each-append [] ws (r ∷ rs) h = absurd (omega arith)
cons_each-append (v ∷ vs) ws [] h = refl
cons_each-append (v ∷ vs) ws (r ∷ rs) h = ap (λ x. (v ∷ r) ∷ x) (cons_each-append vs ws rs (omega arith))

have-put : (n k : ℕ) (cs : List TypedCells) (c : TypedCells) (vs : List Value) → c ≡ get_or cs k c → HaveCells n cs → rows_of n (set cs k (with_cells c (c.cells ++ vs))) ≡ rows_of n cs
have-put n k [] c vs h f = refl
have-put n zero (b ∷ cs) c vs h f =
    let e = have-length n cs f.1 in
    let same : length c.cells ≡ length b.cells = ap (λ (x : TypedCells). length x.cells) h in
    cons_each-append c.cells vs (rows_of n cs) (omega (arith, f.0)) ∙ ap (λ (x : TypedCells). cons_each x.cells (rows_of n cs)) h
have-put n (suc k) (b ∷ cs) c vs h f = ap (cons_each b.cells) (have-put n k cs c vs h f.1)

pub rows-put : (n k : ℕ) (cs : List TypedCells) (c : TypedCells) (vs : List Value) → c ≡ get_or cs k c → AreFilled n k cs → rows_of n (set cs k (with_cells c (c.cells ++ vs))) ≡ rows_of n cs
rows-put n k cs c vs h f = have-put n k cs c vs h (filled-have n k cs f)

pub begun-none : (n : ℕ) (cs : List TypedCells) → AreFilled n zero cs → begun_of n cs ≡ []
begun-none n [] f = refl
begun-none n (c ∷ cs) f = rw (drop_all n c.cells (omega (arith, f.0))) (begun-none n cs f.1)

pub length-begun_of : (n k : ℕ) (cs : List TypedCells) → AreFilled n k cs → length (begun_of n cs) ≡ k
length-begun_of n k [] f = sym f
length-begun_of n zero (c ∷ cs) f = ap length (begun-none n (c ∷ cs) f)
length-begun_of n (suc k) (c ∷ cs) f = omega (arith, length-append (drop n c.cells) (begun_of n cs), length-drop n c.cells, f.0, length-begun_of n k cs f.1)

pub begun-put : (n k : ℕ) (cs : List TypedCells) (c : TypedCells) (v : Value) → c ≡ get_or cs k c → k < length cs → AreFilled n k cs → begun_of n (set cs k (with_cells c (c.cells ++ v ∷ []))) ≡ begun_of n cs ++ v ∷ []
begun-put n k [] c v h l f = absurd (omega arith)
begun-put n zero (b ∷ cs) c v h l f =
    let e : length c.cells ≡ n = ap (λ (x : TypedCells). length x.cells) h ∙ f.0 in
    rw (drop_at c.cells (v ∷ []) n e, drop_all n b.cells (omega (arith, f.0)), begun-none n cs f.1) refl
begun-put n (suc k) (b ∷ cs) c v h l f =
    ap (λ x. drop n b.cells ++ x) (begun-put n k cs c v h (omega arith) f.1) ∙ sym (append_assoc (drop n b.cells) (begun_of n cs) (v ∷ []))

pub filled-within : (n k : ℕ) (cs : List TypedCells) → AreFilled n k cs → k ≤ length cs
filled-within n k [] f = omega (arith, f)
filled-within n zero (c ∷ cs) f = omega arith
filled-within n (suc k) (c ∷ cs) f = omega (arith, filled-within n k cs f.1)

-- a row more
replicate-snoc : (n : ℕ) (r : List Value) → replicate (suc n) r ≡ replicate n r ++ r ∷ []
replicate-snoc zero r = refl
replicate-snoc (suc n) r = ap (λ x. r ∷ x) (replicate-snoc n r)

cons_each-snoc : (vs : List Value) (rows : List (List Value)) (r : List Value) → length vs ≡ suc (length rows) → cons_each vs (rows ++ r ∷ []) ≡ cons_each vs rows ++ (drop (length rows) vs ++ r) ∷ []
cons_each-snoc [] rows r h = absurd (omega arith)
cons_each-snoc (v ∷ vs) [] r h = let e : vs ≡ [] = nil_from_length vs (omega arith) in rw e refl
cons_each-snoc (v ∷ vs) (s ∷ rows) r h = ap (λ x. (v ∷ s) ∷ x) (cons_each-snoc vs rows r (omega arith))

pub rows-end : (n : ℕ) (cs : List TypedCells) → AreFilled n (length cs) cs → rows_of (suc n) cs ≡ rows_of n cs ++ begun_of n cs ∷ []
rows-end n [] f = replicate-snoc n []
rows-end n (c ∷ cs) f =
    let e : length (rows_of n cs) ≡ n = length-rows_of n (length cs) cs f.1 in
    ap (cons_each c.cells) (rows-end n cs f.1) ∙ cons_each-snoc c.cells (rows_of n cs) (begun_of n cs) (omega (arith, f.0)) ∙ ap (λ k. cons_each c.cells (rows_of n cs) ++ (drop k c.cells ++ begun_of n cs) ∷ []) e

pub filled-end : (n : ℕ) (cs : List TypedCells) → AreFilled n (length cs) cs → AreFilled (suc n) zero cs
filled-end n [] f = refl
filled-end n (c ∷ cs) f = (f.0, filled-end n cs f.1)

-- rows cut out
abbrev pub cut_cells : ℕ → ℕ → TypedCells → TypedCells
cut_cells low m c = with_cells c (take m (drop low c.cells))

abbrev pub chosen_cells : List ℕ → TypedCells → TypedCells
chosen_cells ps c = with_cells c (gather c.cells Null ps)

pub kinds-cut : (low m : ℕ) (cs : List TypedCells) → kinds_of (map (cut_cells low m) cs) ≡ kinds_of cs
kinds-cut low m [] = refl
kinds-cut low m (c ∷ cs) = ap (λ ks. c.kind ∷ ks) (kinds-cut low m cs)

pub kinds-chosen : (ps : List ℕ) (cs : List TypedCells) → kinds_of (map (chosen_cells ps) cs) ≡ kinds_of cs
kinds-chosen ps [] = refl
kinds-chosen ps (c ∷ cs) = ap (λ ks. c.kind ∷ ks) (kinds-chosen ps cs)

cons_each-take : (n : ℕ) (vs : List Value) (rows : List (List Value)) → cons_each (take n vs) (take n rows) ≡ take n (cons_each vs rows)
cons_each-take zero vs rows = refl
cons_each-take (suc n) [] rows = refl
cons_each-take (suc n) (v ∷ vs) [] = refl
cons_each-take (suc n) (v ∷ vs) (r ∷ rs) = ap (λ x. (v ∷ r) ∷ x) (cons_each-take n vs rs)

cons_each-drop : (n : ℕ) (vs : List Value) (rows : List (List Value)) → cons_each (drop n vs) (drop n rows) ≡ drop n (cons_each vs rows)
cons_each-drop zero vs rows = refl
cons_each-drop (suc n) [] rows = refl
cons_each-drop (suc n) (v ∷ vs) [] = cons_each-nil (drop n vs)
cons_each-drop (suc n) (v ∷ vs) (r ∷ rs) = cons_each-drop n vs rs

pub rows-cut : (low m n : ℕ) (cs : List TypedCells) → low + m ≤ n → rows_of m (map (cut_cells low m) cs) ≡ take m (drop low (rows_of n cs))
rows-cut low m n [] h = sym (ap (take m) (drop-replicate {X = List Value} low n []) ∙ take-replicate m (n - low) [] (omega arith))
rows-cut low m n (c ∷ cs) h =
    ap (cons_each (take m (drop low c.cells))) (rows-cut low m n cs h) ∙ cons_each-take m (drop low c.cells) (drop low (rows_of n cs)) ∙ ap (take m) (cons_each-drop low c.cells (rows_of n cs))

have-cut : (low m n : ℕ) (cs : List TypedCells) → low + m ≤ n → HaveCells n cs → AreFilled m zero (map (cut_cells low m) cs)
have-cut low m n [] h f = refl
have-cut low m n (c ∷ cs) h f = (omega (arith, length-take m (drop low c.cells), length-drop low c.cells, f.0), have-cut low m n cs h f.1)

pub filled-cut : (low m n k : ℕ) (cs : List TypedCells) → low + m ≤ n → AreFilled n k cs → AreFilled m zero (map (cut_cells low m) cs)
filled-cut low m n k cs h f = have-cut low m n cs h (filled-have n k cs f)

-- rows chosen by their places
get_or-cons_each : (vs : List Value) (rows : List (List Value)) (i : ℕ) → i < length rows → length rows ≤ length vs → get_or (cons_each vs rows) i [] ≡ get_or vs i Null ∷ get_or rows i []
get_or-cons_each vs [] i l h = absurd (omega arith)
get_or-cons_each [] (r ∷ rs) i l h = absurd (omega arith)
get_or-cons_each (v ∷ vs) (r ∷ rs) zero l h = refl
get_or-cons_each (v ∷ vs) (r ∷ rs) (suc i) l h = get_or-cons_each vs rs i (omega arith) (omega arith)

All-rest : (n p : ℕ) (ps : List ℕ) → All (λ q. q < n) (p ∷ ps) → All (λ q. q < n) ps
All-rest n p ps h = λ k d l. h (suc k) d (omega arith)

gather-replicate : (n : ℕ) (ps : List ℕ) → All (λ p. p < n) ps → replicate {A = List Value} (length ps) [] ≡ gather (replicate n []) [] ps
gather-replicate n [] h = refl
gather-replicate n (p ∷ ps) h =
    let here : p < n = h zero 0 (omega arith) in
    let first : get_or {A = List Value} (replicate n []) p [] ≡ [] = get_or-replicate n p [] [] here in
    rw first (ap (λ (x : List (List Value)). [] ∷ x) (gather-replicate n ps (All-rest n p ps h)))

gather-cons_each : (vs : List Value) (rows : List (List Value)) (ps : List ℕ) → length rows ≤ length vs → All (λ p. p < length rows) ps → cons_each (gather vs Null ps) (gather rows [] ps) ≡ gather (cons_each vs rows) [] ps
gather-cons_each vs rows [] l h = refl
gather-cons_each vs rows (p ∷ ps) l h =
    rw (get_or-cons_each vs rows p (h zero 0 (omega arith)) l)
    (ap (λ (x : List (List Value)). (get_or vs p Null ∷ get_or rows p []) ∷ x) (gather-cons_each vs rows ps l (All-rest (length rows) p ps h)))

have-chosen : (n : ℕ) (cs : List TypedCells) (ps : List ℕ) → HaveCells n cs → All (λ p. p < n) ps → rows_of (length ps) (map (chosen_cells ps) cs) ≡ gather (rows_of n cs) [] ps
have-chosen n [] ps f h = gather-replicate n ps h
have-chosen n (c ∷ cs) ps f h =
    let e = have-length n cs f.1 in
    ap (cons_each (gather c.cells Null ps)) (have-chosen n cs ps f.1 h) ∙ gather-cons_each c.cells (rows_of n cs) ps (omega (arith, f.0)) (rw e h)

pub rows-chosen : (n k : ℕ) (cs : List TypedCells) (ps : List ℕ) → AreFilled n k cs → All (λ p. p < n) ps → rows_of (length ps) (map (chosen_cells ps) cs) ≡ gather (rows_of n cs) [] ps
rows-chosen n k cs ps f h = have-chosen n cs ps (filled-have n k cs f) h

length-gather : (vs : List Value) (ps : List ℕ) → length (gather vs Null ps) ≡ length ps
length-gather vs [] = refl
length-gather vs (p ∷ ps) = ap suc (length-gather vs ps)

pub filled-chosen : (cs : List TypedCells) (ps : List ℕ) → AreFilled (length ps) zero (map (chosen_cells ps) cs)
filled-chosen [] ps = refl
filled-chosen (c ∷ cs) ps = (length-gather c.cells ps, filled-chosen cs ps)

-- rows and cells read
abbrev pub row_of : ℕ → List TypedCells → List Value
row_of i cs = map (λ c. get_or c.cells i Null) cs

have-row : (n i : ℕ) (cs : List TypedCells) → i < n → HaveCells n cs → get_or (rows_of n cs) i [] ≡ row_of i cs
have-row n i [] l f = get_or-replicate n i [] [] l
have-row n i (c ∷ cs) l f =
    let e = have-length n cs f.1 in
    get_or-cons_each c.cells (rows_of n cs) i (omega arith) (omega (arith, f.0)) ∙ ap (λ r. get_or c.cells i Null ∷ r) (have-row n i cs l f.1)

pub get_or-rows_of : (n k i : ℕ) (cs : List TypedCells) → i < n → AreFilled n k cs → get_or (rows_of n cs) i [] ≡ row_of i cs
get_or-rows_of n k i cs l f = have-row n i cs l (filled-have n k cs f)

cell-within : (cs : List TypedCells) (i j : ℕ) (c : TypedCells) → c ≡ get_or cs j c → j < length cs → cell (row_of i cs) j ≡ get_or c.cells i Null
cell-within [] i j c h l = absurd (omega arith)
cell-within (b ∷ cs) i zero c h l = ap (λ (x : TypedCells). get_or x.cells i Null) (sym h)
cell-within (b ∷ cs) i (suc j) c h l = cell-within cs i j c h (omega arith)

cell-past : (cs : List TypedCells) (i j : ℕ) → length cs ≤ j → cell (row_of i cs) j ≡ Null
cell-past [] i j l = refl
cell-past (b ∷ cs) i zero l = absurd (omega arith)
cell-past (b ∷ cs) i (suc j) l = cell-past cs i j (omega arith)

pub cell-rows_of : (n k i j : ℕ) (cs : List TypedCells) (c : TypedCells) → i < n → AreFilled n k cs → c ≡ get_or cs j c → j < length cs → cell (get_or (rows_of n cs) i []) j ≡ get_or c.cells i Null
cell-rows_of n k i j cs c l f h m = rw (get_or-rows_of n k i cs l f) (cell-within cs i j c h m)

pub cell-rows_past : (n k i j : ℕ) (cs : List TypedCells) → i < n → AreFilled n k cs → length cs ≤ j → cell (get_or (rows_of n cs) i []) j ≡ Null
cell-rows_past n k i j cs l f m = rw (get_or-rows_of n k i cs l f) (cell-past cs i j m)

-- which rows fit
drop-nil : (i : ℕ) → drop {A = SqlType} i [] ≡ []
drop-nil zero = refl
drop-nil (suc i) = refl

pub fits-step : (ks : List SqlType) (vs : List Value) (i : ℕ) (v : Value) → v ≡ get_or vs i v → i < length vs → fits_at ks i v ≡ true → fits_row (drop i ks) (drop i vs) ≡ fits_row (drop (suc i) ks) (drop (suc i) vs)
fits-step [] vs i v h l t = cc
fits-step (k ∷ ks) [] i v h l t = absurd (omega arith)
fits-step (k ∷ ks) (w ∷ ws) zero v h l t = ap (λ (x : Value). fits k x && fits_row ks ws) (sym h) ∙ ap (λ (b : Bool). b && fits_row ks ws) t
fits-step (k ∷ ks) (w ∷ ws) (suc i) v h l t = fits-step ks ws i v h (omega arith) t

pub fits-refused : (ks : List SqlType) (vs : List Value) (i : ℕ) (v : Value) → v ≡ get_or vs i v → i < length vs → fits_at ks i v ≡ false → fits_row (drop i ks) (drop i vs) ≡ false
fits-refused ks [] i v h l t = absurd (omega arith)
fits-refused [] (w ∷ ws) zero v h l t = refl
fits-refused (k ∷ ks) (w ∷ ws) zero v h l t = ap (λ (x : Value). fits k x && fits_row ks ws) (sym h) ∙ ap (λ (b : Bool). b && fits_row ks ws) t
fits-refused [] (w ∷ ws) (suc i) v h l t = rw (drop-nil i) at (fits-refused [] ws i v h (omega arith) refl)
fits-refused (k ∷ ks) (w ∷ ws) (suc i) v h l t = fits-refused ks ws i v h (omega arith) t

pub fits-all : (ks : List SqlType) (vs : List Value) (i : ℕ) → length vs ≤ i → length ks ≤ i → fits_row (drop i ks) (drop i vs) ≡ true
fits-all ks vs i l m = rw (drop_all i ks m, drop_all i vs l) refl

pub fits-short : (ks : List SqlType) (vs : List Value) (i : ℕ) → length vs ≤ i → i < length ks → fits_row (drop i ks) (drop i vs) ≡ false
fits-short [] vs i l m = absurd (omega arith)
fits-short (k ∷ ks) [] zero l m = refl
fits-short (k ∷ ks) (v ∷ vs) zero l m = absurd (omega arith)
fits-short (k ∷ ks) [] (suc i) l m = rw (drop_all {X = Value} i [] (omega arith)) at (fits-short ks [] i (omega arith) (omega arith))
fits-short (k ∷ ks) (v ∷ vs) (suc i) l m = fits-short ks vs i (omega arith) (omega arith)

-- one step of a function applied in place
in_place : {A : Type 0} (f : A → A) (xs : List A) (i : ℕ) (x : A) → i < length xs → x ≡ get_or (map f (take i xs) ++ drop i xs) i x → set (map f (take i xs) ++ drop i xs) i (f x) ≡ map f (take (suc i) xs) ++ drop (suc i) xs
in_place f [] i x l h = absurd (omega arith)
in_place f (y ∷ ys) zero x l h = ap (λ z. f z ∷ ys) h
in_place f (y ∷ ys) (suc i) x l h = ap (λ zs. f y ∷ zs) (in_place f ys i x (omega arith) h)

pub in_place-step : {A : Type 0} (f : A → A) (now xs : List A) (i : ℕ) (x : A) → now ≡ map f (take i xs) ++ drop i xs → i < length xs → x ≡ get_or now i x → set now i (f x) ≡ map f (take (i + 1) xs) ++ drop (i + 1) xs
in_place-step f now xs i x e l h = rw (e, add-one) (in_place f xs i x l (rw e at h))

pub length-kinds_of : (cs : List TypedCells) → length (kinds_of cs) ≡ length cs
length-kinds_of [] = refl
length-kinds_of (c ∷ cs) = ap suc (length-kinds_of cs)

-- no rows yet
abbrev pub empty_of : SqlType → TypedCells
empty_of kind = record { kind = kind; cells = [] }

pub kinds-empty : (ks : List SqlType) → kinds_of (map empty_of ks) ≡ ks
kinds-empty [] = refl
kinds-empty (k ∷ ks) = ap (λ x. k ∷ x) (kinds-empty ks)

pub rows-empty : (ks : List SqlType) → rows_of 0 (map empty_of ks) ≡ []
rows-empty [] = refl
rows-empty (k ∷ ks) = refl

pub filled-empty : (ks : List SqlType) → AreFilled 0 0 (map empty_of ks)
filled-empty [] = refl
filled-empty (k ∷ ks) = (refl, filled-empty ks)

pub begun-empty : (ks : List SqlType) → begun_of 0 (map empty_of ks) ≡ []
begun-empty ks = begun-none 0 (map empty_of ks) (filled-empty ks)

AreColumns-empty : (ks : List SqlType) → 0 < length ks → AreColumns ks (map empty_of ks) 0 0
AreColumns-empty ks l = record { some = omega (arith, length-map ks empty_of); kinds = kinds-empty ks; filled = filled-empty ks }

-- which kind a value is asked for
pub fits_at-kinds : (cs : List TypedCells) (k : ℕ) (c : TypedCells) (v : Value) → c ≡ get_or cs k c → k < length cs → fits_at (kinds_of cs) k v ≡ fits c.kind v
fits_at-kinds [] k c v h l = absurd (omega arith)
fits_at-kinds (b ∷ cs) zero c v h l = ap (λ (x : TypedCells). fits x.kind v) (sym h)
fits_at-kinds (b ∷ cs) (suc k) c v h l = fits_at-kinds cs k c v h (omega arith)

pub fits_at-past : (ks : List SqlType) (k : ℕ) (v : Value) → length ks ≤ k → fits_at ks k v ≡ false
fits_at-past [] k v l = refl
fits_at-past (b ∷ ks) zero v l = absurd (omega arith)
fits_at-past (b ∷ ks) (suc k) v l = fits_at-past ks k v (omega arith)

-- the columns as they are seen
abbrev pub seen : List SqlType → ℕ → List TypedCells → TypedRows
seen ts n cs = record { types = ts; rows = rows_of n cs; begun = begun_of n cs }

types-length : (ts : List SqlType) (cs : List TypedCells) (n k : ℕ) → AreColumns ts cs n k → length ts ≡ length cs
types-length ts cs n k h = ap length (sym h.kinds) ∙ length-kinds_of cs

pub put-past : (ts : List SqlType) (cs : List TypedCells) (n k : ℕ) (v : Value) → AreColumns ts cs n k → length cs ≤ k → fits_at ts (length (begun_of n cs)) v ≡ false
put-past ts cs n k v h l = fits_at-past ts (length (begun_of n cs)) v (omega (arith, length-begun_of n k cs h.filled, types-length ts cs n k h))

pub put-fits : (ts : List SqlType) (cs : List TypedCells) (n k : ℕ) (c : TypedCells) (v : Value) → AreColumns ts cs n k → k < length cs → c ≡ get_or cs k c → fits_at ts (length (begun_of n cs)) v ≡ fits c.kind v
put-fits ts cs n k c v h l e = rw (length-begun_of n k cs h.filled, ← h.kinds) (fits_at-kinds cs k c v e l)

pub put-columns : (ts : List SqlType) (cs : List TypedCells) (n k : ℕ) (c b : TypedCells) (v : Value) → AreColumns ts cs n k → k < length cs → c ≡ get_or cs k c → b ≡ with_cells c (c.cells ++ v ∷ []) → AreColumns ts (set cs k b) n (k + 1)
put-columns ts cs n k c b v h l e w = rw (w, add-one) record {
  some = omega (arith, h.some, length-set cs k (with_cells c (c.cells ++ v ∷ [])));
  kinds = kinds-put cs k c (c.cells ++ v ∷ []) e ∙ h.kinds;
  filled = filled-put n k cs c v e l h.filled;
}

pub put-seen : (ts : List SqlType) (cs : List TypedCells) (n k : ℕ) (c b : TypedCells) (v : Value) → AreColumns ts cs n k → k < length cs → c ≡ get_or cs k c → b ≡ with_cells c (c.cells ++ v ∷ []) → seen ts n (set cs k b) ≡ record { types = ts; rows = rows_of n cs; begun = begun_of n cs ++ v ∷ [] }
put-seen ts cs n k c b v h l e w = rw w (cc (rows-put n k cs c (v ∷ []) e h.filled, begun-put n k cs c v e l h.filled))

pub end-length : (ts : List SqlType) (cs : List TypedCells) (n k : ℕ) → AreColumns ts cs n k → (length (begun_of n cs) ≡ k) × (length ts ≡ length cs) × (k ≤ length cs)
end-length ts cs n k h = (length-begun_of n k cs h.filled, types-length ts cs n k h, filled-within n k cs h.filled)

first-length : (n k : ℕ) (cs : List TypedCells) (c : TypedCells) → k ≡ length cs → 0 < k → c ≡ get_or cs 0 c → AreFilled n k cs → length c.cells ≡ suc n
first-length n k [] c e l h f = absurd (omega (arith, e))
first-length n zero (b ∷ cs) c e l h f = absurd (omega arith)
first-length n (suc k) (b ∷ cs) c e l h f = ap (λ (x : TypedCells). length x.cells) h ∙ f.0

filled-full : (n k : ℕ) (cs : List TypedCells) → k ≡ length cs → AreFilled n k cs → AreFilled n (length cs) cs
filled-full n k cs e f = rw (← e) f

pub end-columns : (ts : List SqlType) (cs : List TypedCells) (n k m : ℕ) (c : TypedCells) → AreColumns ts cs n k → length cs ≤ k → c ≡ get_or cs 0 c → m ≡ length c.cells → AreColumns ts cs m 0
end-columns ts cs n k m c h l e w =
    let full : k ≡ length cs = omega (arith, filled-within n k cs h.filled) in
    let more : m ≡ suc n = w ∙ first-length n k cs c full (omega (arith, h.some)) e h.filled in
    record { some = h.some; kinds = h.kinds; filled = rw more (filled-end n cs (filled-full n k cs full h.filled)) }

pub end-seen : (ts : List SqlType) (cs : List TypedCells) (n k m : ℕ) (c : TypedCells) → AreColumns ts cs n k → length cs ≤ k → c ≡ get_or cs 0 c → m ≡ length c.cells → seen ts m cs ≡ record { types = ts; rows = rows_of n cs ++ begun_of n cs ∷ []; begun = [] }
end-seen ts cs n k m c h l e w =
    let full : k ≡ length cs = omega (arith, filled-within n k cs h.filled) in
    let more : m ≡ suc n = w ∙ first-length n k cs c full (omega (arith, h.some)) e h.filled in
    let filled = filled-full n k cs full h.filled in
    rw more (cc (rows-end n cs filled, begun-none (suc n) cs (filled-end n cs filled)))

pub cut-columns : (ts : List SqlType) (cs : List TypedCells) (n k low m : ℕ) → AreColumns ts cs n k → low + m ≤ n → AreColumns ts (map (cut_cells low m) cs) m 0
cut-columns ts cs n k low m h l = record {
  some = omega (arith, h.some, length-map cs (cut_cells low m));
  kinds = kinds-cut low m cs ∙ h.kinds;
  filled = filled-cut low m n k cs l h.filled;
}

pub cut-seen : (ts : List SqlType) (cs : List TypedCells) (n k low m : ℕ) → AreColumns ts cs n k → low + m ≤ n → seen ts m (map (cut_cells low m) cs) ≡ record { types = ts; rows = take m (drop low (rows_of n cs)); begun = [] }
cut-seen ts cs n k low m h l = cc (rows-cut low m n cs l, begun-none m (map (cut_cells low m) cs) (filled-cut low m n k cs l h.filled))

pub chosen-columns : (ts : List SqlType) (cs : List TypedCells) (n k : ℕ) (ps : List ℕ) → AreColumns ts cs n k → AreColumns ts (map (chosen_cells ps) cs) (length ps) 0
chosen-columns ts cs n k ps h = record {
  some = omega (arith, h.some, length-map cs (chosen_cells ps));
  kinds = kinds-chosen ps cs ∙ h.kinds;
  filled = filled-chosen cs ps;
}

pub chosen-seen : (ts : List SqlType) (cs : List TypedCells) (n k : ℕ) (ps : List ℕ) → AreColumns ts cs n k → All (λ p. p < n) ps → seen ts (length ps) (map (chosen_cells ps) cs) ≡ record { types = ts; rows = gather (rows_of n cs) [] ps; begun = [] }
chosen-seen ts cs n k ps h a = cc (rows-chosen n k cs ps h.filled a, begun-none (length ps) (map (chosen_cells ps) cs) (filled-chosen cs ps))

pub empty-columns : (ts ks : List SqlType) (cs : List TypedCells) → ts ≡ ks → cs ≡ map empty_of ks → 0 < length ks → AreColumns ts cs 0 0
empty-columns ts ks cs e f l = rw (e, f) (AreColumns-empty ks l)

pub empty-seen : (ts ks : List SqlType) (cs : List TypedCells) → ts ≡ ks → cs ≡ map empty_of ks → seen ts 0 cs ≡ record { types = ks; rows = []; begun = [] }
empty-seen ts ks cs e f = rw (e, f) (cc (rows-empty ks, begun-empty ks))

pub truncate-seen : (ts : List SqlType) (cs : List TypedCells) (n k m len : ℕ) → AreColumns ts cs n k → m ≡ min n len → seen ts m (map (cut_cells 0 m) cs) ≡ record { types = ts; rows = take len (rows_of n cs); begun = [] }
truncate-seen ts cs n k m len h e =
    let rows : List (List Value) = rows_of n cs in
    let bound : m ≡ min len (length rows) = omega (arith, e, length-rows_of n k cs h.filled) in
    cut-seen ts cs n k 0 m h (omega (arith, e)) ∙ ap (λ (r : List (List Value)). record { types = ts; rows = r; begun = [] }) (ap (λ (j : ℕ). take j rows) bound ∙ take_min len rows)

-- every column reaches as far as the rows
have-at : (n : ℕ) (cs : List TypedCells) → HaveCells n cs → (j : ℕ) (d : TypedCells) → j < length cs → n ≤ length (get_or cs j d).cells
have-at n [] h j d l = absurd (omega arith)
have-at n (c ∷ cs) h zero d l = h.0
have-at n (c ∷ cs) h (suc j) d l = have-at n cs h.1 j d (omega arith)

pub long-each : (n k m : ℕ) (cs : List TypedCells) → AreFilled n k cs → m ≤ n → All (λ (c : TypedCells). m ≤ length c.cells) cs
long-each n k m cs f l = λ j d w. let reach = have-at n cs (filled-have n k cs f) j d w in omega arith

pub places-each : (n k : ℕ) (cs : List TypedCells) (ps : List ℕ) → AreFilled n k cs → All (λ p. p < n) ps → All (λ (c : TypedCells). All (λ p. p < length c.cells) ps) cs
places-each n k cs ps f h = λ j d w i e l.
    let reach = have-at n cs (filled-have n k cs f) j d w in
    let place : get_or ps i e < n = h i e l in omega arith

-- one column of the rows
first-cells : (vs : List Value) (rows : List (List Value)) → length rows ≤ length vs → map (λ row. cell row 0) (cons_each vs rows) ≡ take (length rows) vs
first-cells [] [] h = refl
first-cells [] (r ∷ rs) h = absurd (omega arith)
first-cells (v ∷ vs) [] h = refl
first-cells (v ∷ vs) (r ∷ rs) h = ap (λ x. v ∷ x) (first-cells vs rs (omega arith))

later-cells : (vs : List Value) (rows : List (List Value)) (j : ℕ) → length rows ≤ length vs → map (λ row. cell row (suc j)) (cons_each vs rows) ≡ map (λ row. cell row j) rows
later-cells [] [] j h = refl
later-cells [] (r ∷ rs) j h = absurd (omega arith)
later-cells (v ∷ vs) [] j h = refl
later-cells (v ∷ vs) (r ∷ rs) j h = ap (λ x. cell r j ∷ x) (later-cells vs rs j (omega arith))

have-cells : (n : ℕ) (cs : List TypedCells) (j : ℕ) (c : TypedCells) → HaveCells n cs → c ≡ get_or cs j c → j < length cs → map (λ row. cell row j) (rows_of n cs) ≡ take n c.cells
have-cells n [] j c h e l = absurd (omega arith)
have-cells n (b ∷ cs) zero c h e l =
    let w = have-length n cs h.1 in
    first-cells b.cells (rows_of n cs) (omega (arith, h.0)) ∙ ap (λ i. take i b.cells) w ∙ ap (λ (x : TypedCells). take n x.cells) (sym e)
have-cells n (b ∷ cs) (suc j) c h e l =
    let w = have-length n cs h.1 in
    later-cells b.cells (rows_of n cs) j (omega (arith, h.0)) ∙ have-cells n cs j c h.1 e (omega arith)

take-within : (low m n : ℕ) (vs : List Value) → low + m ≤ n → take m (drop low (take n vs)) ≡ take m (drop low vs)
take-within zero m n vs h = take-take m n vs (omega arith)
take-within (suc low) m zero vs h = absurd (omega arith)
take-within (suc low) m (suc n) [] h = refl
take-within (suc low) m (suc n) (v ∷ vs) h = take-within low m n vs (omega arith)

pub cells-cut : (n k low m : ℕ) (cs : List TypedCells) (j : ℕ) (c : TypedCells) → AreFilled n k cs → c ≡ get_or cs j c → j < length cs → low + m ≤ n → take m (drop low c.cells) ≡ map (λ row. cell row j) (take m (drop low (rows_of n cs)))
cells-cut n k low m cs j c f e l h =
    let one : List Value → Value = λ row. cell row j in
    sym (sym (take-map one m (drop low (rows_of n cs))) ∙ ap (take m) (sym (drop-map one low (rows_of n cs))) ∙ ap (λ vs. take m (drop low vs)) (have-cells n cs j c (filled-have n k cs f) e l) ∙ take-within low m n c.cells h)

-- the cells of a column that has none of a row that is only begun
pub whole-cells : (n : ℕ) (cs : List TypedCells) (j : ℕ) (c : TypedCells) → AreFilled n zero cs → c ≡ get_or cs j c → j < length cs → c.cells ≡ map (λ row. cell row j) (rows_of n cs)
whole-cells n [] j c f e l = absurd (omega arith)
whole-cells n (b ∷ cs) zero c f e l =
    let rows : length (rows_of n cs) ≡ n = length-rows_of n zero cs f.1 in
    let first : map (λ row. cell row 0) (cons_each b.cells (rows_of n cs)) ≡ b.cells =
    first-cells b.cells (rows_of n cs) (omega (arith, f.0)) ∙ take_all (length (rows_of n cs)) b.cells (omega (arith, f.0)) in
    ap (λ (x : TypedCells). x.cells) e ∙ sym first
whole-cells n (b ∷ cs) (suc j) c f e l =
    let rows : length (rows_of n cs) ≡ n = length-rows_of n zero cs f.1 in
    whole-cells n cs j c f.1 e (omega arith) ∙ sym (later-cells b.cells (rows_of n cs) j (omega (arith, f.0)))

-- columns handed in and out
pub first-common : (cs : List TypedCells) (c : TypedCells) → c ≡ get_or cs 0 c → 0 < length cs → length c.cells ≡ common_length cs
first-common [] c e l = absurd (omega arith)
first-common (b ∷ cs) c e l = ap (λ (x : TypedCells). length x.cells) e

pub whole-seen : (ts : List SqlType) (cs : List TypedCells) (n : ℕ) → n ≡ common_length cs → AreFilled (common_length cs) 0 cs → seen ts n cs ≡ record { types = ts; rows = rows_of (common_length cs) cs; begun = [] }
whole-seen ts cs n m f = rw m (ap (λ (vs : List Value). record { types = ts; rows = rows_of (common_length cs) cs; begun = vs }) (begun-none (common_length cs) cs f))

pub none-begun : (ts : List SqlType) (cs : List TypedCells) (n k : ℕ) → AreColumns ts cs n k → begun_of n cs ≡ [] → AreFilled n 0 cs
none-begun ts cs n k h e = let z : k ≡ 0 = sym (length-begun_of n k cs h.filled) ∙ ap length e in rw z at h.filled

pub count-seen : (t : TypedRows) (ts : List SqlType) (cs : List TypedCells) (n k : ℕ) → AreColumns ts cs n k → seen ts n cs ≡ t → length t.rows ≡ n
count-seen t ts cs n k h e = ap (λ (x : TypedRows). length x.rows) (sym e) ∙ length-rows_of n k cs h.filled

pub reach : (n k : ℕ) (cs : List TypedCells) (j : ℕ) (c : TypedCells) → AreFilled n k cs → c ≡ get_or cs j c → j < length cs → n ≤ length c.cells
reach n k cs j c f e l = rw (← e) at (have-at n cs (filled-have n k cs f) j c l)

pub seen-whole : (t : TypedRows) (ts : List SqlType) (cs : List TypedCells) (n k : ℕ) → AreColumns ts cs n k → k ≡ 0 → seen ts n cs ≡ t → t ≡ record { types = t.types; rows = t.rows; begun = [] }
seen-whole t ts cs n k h z e =
    let none : t.begun ≡ [] = ap (λ (x : TypedRows). x.begun) (sym e) ∙ begun-none n cs (rw z at h.filled) in
    ap (λ (vs : List Value). record { types = t.types; rows = t.rows; begun = vs }) none

-- a row put value by value
pub put-refused : (old now : TypedRows) (vs : List Value) (i : ℕ) (v : Value) → record { types = now.types; rows = now.rows; begun = [] } ≡ old → now.begun ≡ take i vs → v ≡ get_or vs i v → i < length vs → fits_row old.types vs ≡ fits_row (drop i old.types) (drop i vs) → fits_at now.types (length now.begun) v ≡ false → fits_row old.types vs ≡ false
put-refused old now vs i v k b e l f r =
    let types : now.types ≡ old.types = ap (λ (x : TypedRows). x.types) k in
    let place : length now.begun ≡ i = ap length b ∙ length-take i vs ∙ omega arith in
    f ∙ fits-refused old.types vs i v e l (rw (types, place) at r)

pub put-taken : (old now : TypedRows) (vs : List Value) (i : ℕ) (v : Value) → record { types = now.types; rows = now.rows; begun = [] } ≡ old → now.begun ≡ take i vs → v ≡ get_or vs i v → i < length vs → fits_row old.types vs ≡ fits_row (drop i old.types) (drop i vs) → fits_at now.types (length now.begun) v ≡ true → fits_row old.types vs ≡ fits_row (drop (i + 1) old.types) (drop (i + 1) vs)
put-taken old now vs i v k b e l f r =
    let types : now.types ≡ old.types = ap (λ (x : TypedRows). x.types) k in
    let place : length now.begun ≡ i = ap length b ∙ length-take i vs ∙ omega arith in
    rw add-one (f ∙ fits-step old.types vs i v e l (rw (types, place) at r))

pub put-begun : (begun vs : List Value) (i : ℕ) (v : Value) → begun ≡ take i vs → v ≡ get_or vs i v → i < length vs → begun ++ v ∷ [] ≡ take (i + 1) vs
put-begun begun vs i v b e l = ap (λ (ws : List Value). ws ++ v ∷ []) b ∙ ap (λ (w : Value). take i vs ++ w ∷ []) e ∙ sym (take_more vs i v l)

pub put-whole : (ts : List SqlType) (vs : List Value) (i : ℕ) → fits_row ts vs ≡ fits_row (drop i ts) (drop i vs) → i ≡ length vs → fits_row ts vs ≡ fits_row (drop (length vs) ts) []
put-whole ts vs i f e = f ∙ rw (e, drop_all (length vs) vs (omega arith)) refl

pub row-ends : (ts : List SqlType) (n : ℕ) (ended : Bool) → (IsTrue ended ↔ (length ts ≤ n)) → ended ≡ fits_row (drop n ts) []
row-ends [] n true h = rw (drop_all {X = SqlType} n [] (omega arith)) refl
row-ends [] n false h = h.1 (omega arith) ∙ sym (rw (drop_all {X = SqlType} n [] (omega arith)) refl)
row-ends (t ∷ ts) zero true h = absurd (omega (arith, h.0 refl))
row-ends (t ∷ ts) zero false h = refl
row-ends (t ∷ ts) (suc n) ended h = row-ends ts n ended (λ x. omega (arith, h.0 x), λ x. h.1 (omega arith))

pub some-types : (t : TypedRows) (ts : List SqlType) (cs : List TypedCells) (n k : ℕ) → AreColumns ts cs n k → seen ts n cs ≡ t → 0 < length t.types
some-types t ts cs n k h e = omega (arith, h.some, types-length ts cs n k h, ap (λ (x : TypedRows). length x.types) e)

-- the type at the place of a column
pub type-there : (t : TypedRows) (ts : List SqlType) (cs : List TypedCells) (n k j : ℕ) (c : TypedCells) → AreColumns ts cs n k → seen ts n cs ≡ t → slice_get cs j ≡ Some c → slice_get t.types j ≡ Some c.kind
type-there t ts cs n k j c h e l =
    ap (λ (x : TypedRows). slice_get x.types j) (sym e) ∙ ap (λ ks. slice_get ks j) (sym h.kinds) ∙ slice_get-map (λ (x : TypedCells). x.kind) cs j
    ∙ ap (option_map (λ (x : TypedCells). x.kind)) l

pub none-there : (t : TypedRows) (ts : List SqlType) (cs : List TypedCells) (n k j : ℕ) → AreColumns ts cs n k → seen ts n cs ≡ t → slice_get cs j ≡ None → slice_get t.types j ≡ None
none-there t ts cs n k j h e l =
    ap (λ (x : TypedRows). slice_get x.types j) (sym e) ∙ ap (λ ks. slice_get ks j) (sym h.kinds) ∙ slice_get-map (λ (x : TypedCells). x.kind) cs j
    ∙ ap (option_map (λ (x : TypedCells). x.kind)) l

-- a column of rows of which none is begun
pub seen-columns : (t : TypedRows) (ts : List SqlType) (cs : List TypedCells) (n k j : ℕ) (c : TypedCells) → AreColumns ts cs n k → seen ts n cs ≡ t → t.begun ≡ [] → c ≡ get_or cs j c → j < length cs → c.cells ≡ map (λ row. cell row j) t.rows
seen-columns t ts cs n k j c h e b f l =
    let begun : begun_of n cs ≡ [] = ap (λ (x : TypedRows). x.begun) e ∙ b in
    let none : k ≡ 0 = omega (arith, length-begun_of n k cs h.filled, ap length begun) in
    whole-cells n cs j c (rw none at h.filled) f l ∙ ap (λ (x : TypedRows). map (λ row. cell row j) x.rows) e
