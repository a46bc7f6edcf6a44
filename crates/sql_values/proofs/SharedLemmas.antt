-- The cells that a block shows of what it keeps: of a run one cell again and again, of a dictionary the entries of ids.
use Rattle.std.proofs.Common.{◌≡◌, ℕ, ◌+◌, ◌-◌, ◌<◌, ◌≤◌, zero, suc, List, [], ◌∷◌, ◌++◌, length, get_or, take, drop, map, refl, ap, sym, ◌∙◌, subst, arith}
use Rattle.std.specs.Prelude.{All, Bool, true, IsTrue, replicate}
use Rattle.std.specs.List.{range_with_len}
use Rattle.std.proofs.lemmas.List.{get_or-map, length-map, length-replicate, get_or-replicate, take-map, drop-map, take-replicate, drop-replicate, take_all}
use Rattle.std.proofs.lemmas.List.Elements.{All-cons, All-nil, All-get_or, All-head, All-tail}
use Rattle.std.proofs.lemmas.List.FromFn.{fill_by_all, get_or-range_with_len, length-range_with_len}
use Rattle.columns.specs.Present.{gather}
use Rattle.sql_values.specs.declared.value.Value.{Value}
use Rattle.sql_values.specs.declared.value.Value.TheVariants as value
use Rattle.sql_values.specs.declared.types.SqlType.{SqlType}
use Rattle.sql_values.specs.Blocks.{TypedCells, fits, offered, with_cells, chosen, AreAll}

pub get_or-gather : {A : Type 0} (xs : List A) (d : A) (ps : List ℕ) (i : ℕ) (e : A) → i < length ps → get_or (gather xs d ps) i e ≡ get_or xs (get_or ps i 0) d
get_or-gather xs d ps i e h = get_or-map (λ p. get_or xs p d) ps i 0 e h

pub gather-gather : {A : Type 0} (xs : List A) (d : A) (ps qs : List ℕ) → All (λ q. q < length ps) qs → gather (gather xs d ps) d qs ≡ gather xs d (gather ps 0 qs)
gather-gather xs d ps [] h = refl
gather-gather xs d ps (q ∷ qs) h = cc (get_or-gather xs d ps q d (All-head (λ q. q < length ps) q qs h), gather-gather xs d ps qs (All-tail (λ q. q < length ps) q qs h))

pub gather-replicate : (n : ℕ) (qs : List ℕ) → All (λ q. q < n) qs → gather {A = ℕ} (replicate n 0) 0 qs ≡ replicate (length qs) 0
gather-replicate n [] h = refl
gather-replicate n (q ∷ qs) h = cc (get_or-replicate {A = ℕ} n q 0 0 (All-head (λ q. q < n) q qs h), gather-replicate n qs (All-tail (λ q. q < n) q qs h))

-- ids of entries, chosen by places of ids, are ids of entries
pub gather-below : (bound : ℕ) (ids qs : List ℕ) → All (λ p. p < bound) ids → All (λ q. q < length ids) qs → All (λ p. p < bound) (gather ids 0 qs)
gather-below bound ids [] h w = All-nil (λ p. p < bound)
gather-below bound ids (q ∷ qs) h w =
    All-cons (λ p. p < bound) (get_or ids q 0) (gather ids 0 qs) (All-get_or (λ p. p < bound) ids q 0 (All-head (λ q. q < length ids) q qs w) h)
    (gather-below bound ids qs h (All-tail (λ q. q < length ids) q qs w))

-- places of chosen cells are places of the places that chose them
pub below-chosen : (cells : List Value) (ids qs : List ℕ) → All (λ q. q < length (gather cells value.Null ids)) qs → All (λ q. q < length ids) qs
below-chosen cells ids qs h = subst (λ n. All (λ q. q < n) qs) (length-map ids (λ p. get_or cells p value.Null)) h

-- one place more
ranged : (n m : ℕ) → range_with_len n (suc m) ≡ range_with_len n m ++ (n + m) ∷ []
ranged n zero = ap (λ k. k ∷ []) (omega arith)
ranged n (suc m) = ap (λ ks. n ∷ ks) (ranged (n + 1) m ∙ ap (λ k. range_with_len (n + 1) m ++ k ∷ []) (omega arith))

pub range-more : (places next : List ℕ) (n : ℕ) → places ≡ range_with_len 0 n → next ≡ places ++ n ∷ [] → next ≡ range_with_len 0 (n + 1)
range-more places next n h e =
    let here : n ≡ 0 + n = omega arith in
    let count : suc n ≡ n + 1 = omega arith in
    e ∙ ap (λ xs. xs ++ n ∷ []) h ∙ ap (λ k. range_with_len 0 n ++ k ∷ []) here ∙ sym (ranged 0 n) ∙ ap (range_with_len 0) count

-- the places of a whole list are below its length, and choose it
pub places-below : (n : ℕ) (places : List ℕ) → places ≡ range_with_len 0 n → All (λ p. p < n) places
places-below n places e k d lt =
    let small : k < n = omega (arith, lt, ap length e, length-range_with_len 0 n) in
    rw (e, get_or-range_with_len 0 n k d small) (omega arith)

pub places-whole : (block : TypedCells) (places : List ℕ) → places ≡ range_with_len 0 (length block.cells) → chosen block places ≡ block
places-whole block places e =
    ap (chosen block) e
    ∙ ap (with_cells block) (sym (fill_by_all (λ p. get_or block.cells p value.Null) block.cells (length block.cells) value.Null refl (λ k lt. refl)))

-- the first cell again and again
again : (v : Value) (cells : List Value) → AreAll v cells → cells ≡ replicate (length cells) v
again v [] h = refl
again v (c ∷ cells) h = cc (All-head (λ cell. cell ≡ v) c cells h, again v cells (All-tail (λ cell. cell ≡ v) c cells h))

gather-again : (cells : List Value) (n : ℕ) → gather cells value.Null (replicate n 0) ≡ replicate n (get_or cells 0 value.Null)
gather-again cells zero = refl
gather-again cells (suc n) = ap (λ vs. get_or cells 0 value.Null ∷ vs) (gather-again cells n)

first-taken : (cells : List Value) → 0 < length cells → get_or (take 1 cells) 0 value.Null ≡ get_or cells 0 value.Null
first-taken [] h = absurd (omega arith)
first-taken (c ∷ cells) h = refl

-- cells that are all the first one are a run of the first one
pub run-whole : (block one : TypedCells) (count : ℕ) → AreAll (get_or block.cells 0 value.Null) block.cells → 0 < length block.cells → count ≡ length block.cells
    → one ≡ with_cells block (take 1 block.cells) → chosen one (replicate count 0) ≡ block
run-whole block one count h some n o =
    ap (λ (t : TypedCells). chosen t (replicate count 0)) o
    ∙ ap (with_cells block) (gather-again (take 1 block.cells) count ∙ ap (replicate count) (first-taken block.cells some) ∙ ap (λ k. replicate k (get_or block.cells 0 value.Null)) n ∙ sym (again (get_or block.cells 0 value.Null) block.cells h))

-- one value alone, again and again
pub repeat-whole : (kind : SqlType) (v w : Value) (count : ℕ) (start one : TypedCells) (taken : Bool) → start ≡ record { kind = kind; cells = [] } → w ≡ v → taken ≡ fits start.kind w → IsTrue (fits kind v)
    → one ≡ with_cells start (offered taken start.cells w) → chosen one (replicate count 0) ≡ record { kind = kind; cells = replicate count v }
repeat-whole kind v w count start one taken s e t f o =
    let yes : taken ≡ true = t ∙ ap (λ (x : TypedCells). fits x.kind w) s ∙ ap (fits kind) e ∙ f in
    let is : one ≡ record { kind = kind; cells = v ∷ [] }
    = o ∙ ap (λ (x : Bool). with_cells start (offered x start.cells w)) yes ∙ ap (λ (x : TypedCells). with_cells x (x.cells ++ w ∷ [])) s ∙ ap (λ (x : Value). record { kind = kind; cells = x ∷ [] }) e in
    ap (λ (x : TypedCells). chosen x (replicate count 0)) is ∙ ap (λ (vs : List Value). record { kind = kind; cells = vs }) (gather-again (v ∷ []) count)

-- a cell of a run is its one cell
pub cell-run : (one block : TypedCells) (count i : ℕ) → chosen one (replicate count 0) ≡ block → i < length block.cells → get_or one.cells 0 value.Null ≡ get_or block.cells i value.Null
cell-run one block count i e h =
    let zeros = replicate {A = ℕ} count 0 in
    let cells : gather one.cells value.Null zeros ≡ block.cells = ap (λ (t : TypedCells). t.cells) e in
    let short : length block.cells ≡ count = sym (ap length cells) ∙ length-map zeros (λ p. get_or one.cells p value.Null) ∙ length-replicate {A = ℕ} count 0 in
    let within : i < count = omega (arith, h, short) in
    let inside : i < length zeros = omega (arith, within, length-replicate {A = ℕ} count 0) in
    sym (ap (λ vs. get_or vs i value.Null) (sym cells) ∙ get_or-gather one.cells value.Null zeros i value.Null inside ∙ ap (λ p. get_or one.cells p value.Null) (get_or-replicate {A = ℕ} count i 0 0 within))

-- places among the cells that a block shows
abbrev pub Within : TypedCells → List ℕ → Type 0
Within block places = All (λ p. p < length block.cells) places

within-shown : (kept block : TypedCells) (ids places : List ℕ) → chosen kept ids ≡ block → Within block places → All (λ q. q < length ids) places
within-shown kept block ids places e h = below-chosen kept.cells ids places (subst (λ (t : TypedCells). Within t places) (sym e) h)

select-shown : (kept block : TypedCells) (ids places : List ℕ) → chosen kept ids ≡ block → Within block places → chosen kept (gather ids 0 places) ≡ with_cells block (gather block.cells value.Null places)
select-shown kept block ids places e h =
    ap (with_cells kept) (sym (gather-gather kept.cells value.Null ids places (within-shown kept block ids places e h)))
    ∙ ap (λ (t : TypedCells). with_cells t (gather t.cells value.Null places)) e

pub select-run : (one copy block : TypedCells) (count : ℕ) (places : List ℕ) → chosen one (replicate count 0) ≡ block → copy ≡ one → Within block places
    → chosen copy (replicate (length places) 0) ≡ with_cells block (gather block.cells value.Null places)
select-run one copy block count places e c h =
    let zeros = replicate {A = ℕ} count 0 in
    let few : All (λ q. q < count) places = subst (λ n. All (λ q. q < n) places) (length-replicate {A = ℕ} count 0) (within-shown one block zeros places e h) in
    ap (λ (t : TypedCells). chosen t (replicate (length places) 0)) c ∙ ap (chosen one) (sym (gather-replicate count places few)) ∙ select-shown one block zeros places e h

pub select-ids : (entries shared block : TypedCells) (ids next places : List ℕ) → chosen entries ids ≡ block → shared ≡ entries → next ≡ gather ids 0 places → Within block places
    → chosen shared next ≡ with_cells block (gather block.cells value.Null places)
select-ids entries shared block ids next places e s n h =
    ap (λ (t : TypedCells). chosen t next) s ∙ ap (chosen entries) n ∙ select-shown entries block ids places e h

pub select-below : (entries shared block : TypedCells) (ids next places : List ℕ) → chosen entries ids ≡ block → shared ≡ entries → next ≡ gather ids 0 places → Within block places
    → Within entries ids → Within shared next
select-below entries shared block ids next places e s n h w =
    subst (λ (t : TypedCells). Within t next) (sym s)
    (subst (λ ps. Within entries ps) (sym n) (gather-below (length entries.cells) ids places w (within-shown entries block ids places e h)))

pub ruleset chosens = (length-map, length-replicate, take-map, drop-map, take-replicate, drop-replicate, take_all)
