-- Blocks of pages joined to blocks of all their rows.
use Rattle.std.proofs.Common.{◌≡◌, ℕ, ◌+◌, ◌<◌, zero, suc, drop, List, [], ◌∷◌, ◌++◌, length, get_or, set, refl, ap, sym, ◌∙◌, append_assoc, length-append, arith, subst}
use Rattle.std.specs.Prelude.{replicate}
use Rattle.std.proofs.lemmas.List.{length-map}
use Rattle.sql_values.specs.declared.types.SqlType.{SqlType}
use Rattle.sql_values.specs.declared.value.Value.{Value}
use Rattle.sql_values.specs.Blocks.{TypedCells, with_cells}
use Rattle.sql_values.specs.ColumnRows.{AreFilled, common_length, cons_each, kinds_of, rows_of}
use Rattle.sql_values.proofs.ColumnRowsLemmas.{length-rows_of}
use Rattle.tree_evaluator.specs.Pages.{joined}

-- the blocks hold the rows before those that are left
pub record Holds (types : List SqlType) (whole left : List (List Value)) (blocks : List TypedCells) : Type 0 where
  pub some : 0 < length blocks
  pub kinds : kinds_of blocks ≡ types
  pub filled : AreFilled (common_length blocks) 0 blocks
  pub rows : rows_of (common_length blocks) blocks ++ left ≡ whole

-- one place more
pub join_more : (k : ℕ) (bs ms : List TypedCells) (b m : TypedCells) → k < length bs → k < length ms → b ≡ get_or (joined k bs ms) k b → m ≡ get_or ms k m
    → set (joined k bs ms) k (with_cells b (b.cells ++ m.cells)) ≡ joined (suc k) bs ms
join_more k [] ms b m l n e f = absurd (omega arith)
join_more k (c ∷ bs) [] b m l n e f = absurd (omega arith)
join_more zero (c ∷ bs) (d ∷ ms) b m l n e f = (λ i. with_cells (e i) ((e i).cells ++ (f i).cells) ∷ bs)
join_more (suc k) (c ∷ bs) (d ∷ ms) b m l n e f = ap (λ xs. with_cells c (c.cells ++ d.cells) ∷ xs) (join_more k bs ms b m (omega arith) (omega arith) e f)

pub same_kind : (k : ℕ) (bs ms : List TypedCells) (b m : TypedCells) → k < length bs → k < length ms → b ≡ get_or (joined k bs ms) k b → m ≡ get_or ms k m → kinds_of bs ≡ kinds_of ms → b.kind ≡ m.kind
same_kind k [] ms b m l n e f h = absurd (omega arith)
same_kind k (c ∷ bs) [] b m l n e f h = absurd (omega arith)
same_kind zero (c ∷ bs) (d ∷ ms) b m l n e f h = ap (λ (x : TypedCells). x.kind) e ∙ ap (λ ks. get_or ks 0 c.kind) h ∙ ap (λ (x : TypedCells). x.kind) (sym f)
same_kind (suc k) (c ∷ bs) (d ∷ ms) b m l n e f h = same_kind k bs ms b m (omega arith) (omega arith) e f (ap (drop 1) h)

pub same_count : (bs ms : List TypedCells) → kinds_of bs ≡ kinds_of ms → length bs ≡ length ms
same_count bs ms h = omega (arith, length-map bs (λ (x : TypedCells). x.kind), length-map ms (λ (x : TypedCells). x.kind), ap length h)

-- all places
kinds-joined : (bs ms : List TypedCells) (n : ℕ) → kinds_of (joined n bs ms) ≡ kinds_of bs
kinds-joined bs ms zero = refl
kinds-joined [] ms (suc n) = refl
kinds-joined (b ∷ bs) [] (suc n) = refl
kinds-joined (b ∷ bs) (m ∷ ms) (suc n) = ap (λ ks. b.kind ∷ ks) (kinds-joined bs ms n)

filled-joined : (n m : ℕ) (bs ms : List TypedCells) → length bs ≡ length ms → AreFilled n 0 bs → AreFilled m 0 ms → AreFilled (n + m) 0 (joined (length bs) bs ms)
filled-joined n m [] ms e f g = refl
filled-joined n m (b ∷ bs) [] e f g = absurd (omega (arith, e))
filled-joined n m (b ∷ bs) (c ∷ ms) e f g = (omega (arith, length-append b.cells c.cells, f.0, g.0), filled-joined n m bs ms (omega (arith, e)) f.1 g.1)

replicate-add : (n m : ℕ) → replicate {A = List Value} (n + m) [] ≡ replicate n [] ++ replicate m []
replicate-add zero m = let none : 0 + m ≡ m = omega arith in ap (λ n. replicate {A = List Value} n []) none
replicate-add (suc n) m =
    let more : suc n + m ≡ suc (n + m) = omega arith in
    ap (λ k. replicate {A = List Value} k []) more ∙ ap (λ (xs : List (List Value)). [] ∷ xs) (replicate-add n m)

cons_each-join : (vs ws : List Value) (rows others : List (List Value)) → length vs ≡ length rows → cons_each (vs ++ ws) (rows ++ others) ≡ cons_each vs rows ++ cons_each ws others
cons_each-join [] ws [] others e = refl
cons_each-join [] ws (r ∷ rows) others e = absurd (omega (arith, e))
cons_each-join (v ∷ vs) ws [] others e = absurd (omega (arith, e))
cons_each-join (v ∷ vs) ws (r ∷ rows) others e = ap (λ xs. (v ∷ r) ∷ xs) (cons_each-join vs ws rows others (omega (arith, e)))

rows-joined : (n m : ℕ) (bs ms : List TypedCells) → length bs ≡ length ms → AreFilled n 0 bs → AreFilled m 0 ms → rows_of (n + m) (joined (length bs) bs ms) ≡ rows_of n bs ++ rows_of m ms
rows-joined n m [] [] e f g = replicate-add n m
rows-joined n m [] (c ∷ ms) e f g = absurd (omega (arith, e))
rows-joined n m (b ∷ bs) [] e f g = absurd (omega (arith, e))
rows-joined n m (b ∷ bs) (c ∷ ms) e f g =
    ap (cons_each (b.cells ++ c.cells)) (rows-joined n m bs ms (omega (arith, e)) f.1 g.1)
    ∙ cons_each-join b.cells c.cells (rows_of n bs) (rows_of m ms) (omega (arith, f.0, length-rows_of n 0 bs f.1))

common-joined : (n m : ℕ) (bs ms : List TypedCells) → 0 < length bs → length bs ≡ length ms → AreFilled n 0 bs → AreFilled m 0 ms → common_length (joined (length bs) bs ms) ≡ n + m
common-joined n m [] ms l e f g = absurd (omega arith)
common-joined n m (b ∷ bs) [] l e f g = absurd (omega (arith, e))
common-joined n m (b ∷ bs) (c ∷ ms) l e f g = omega (arith, length-append b.cells c.cells, f.0, g.0)

common-filled : (n : ℕ) (bs : List TypedCells) → 0 < length bs → AreFilled n 0 bs → common_length bs ≡ n
common-filled n [] l f = absurd (omega arith)
common-filled n (b ∷ bs) l f = f.0

length-joined : (n : ℕ) (bs ms : List TypedCells) → length (joined n bs ms) ≡ length bs
length-joined zero bs ms = refl
length-joined (suc n) [] ms = refl
length-joined (suc n) (b ∷ bs) [] = refl
length-joined (suc n) (b ∷ bs) (m ∷ ms) = ap suc (length-joined n bs ms)

some_kinds : (bs : List TypedCells) (types : List SqlType) → kinds_of bs ≡ types → 0 < length types → 0 < length bs
some_kinds bs types e l = omega (arith, length-map bs (λ (x : TypedCells). x.kind), ap length e, l)

pub holds_first : (types : List SqlType) (whole rows left : List (List Value)) (blocks : List TypedCells) → 0 < length types → kinds_of blocks ≡ types
    → AreFilled (length rows) 0 blocks → rows_of (length rows) blocks ≡ rows → whole ≡ rows ++ left → Holds types whole left blocks
holds_first types whole rows left blocks some k f r w =
    let count : common_length blocks ≡ length rows = common-filled (length rows) blocks (some_kinds blocks types k some) f in
    record {
      some = some_kinds blocks types k some;
      kinds = k;
      filled = subst (λ n. AreFilled n 0 blocks) (sym count) f;
      rows = ap (λ n. rows_of n blocks ++ left) count ∙ ap (λ rs. rs ++ left) r ∙ sym w;
    }

pub holds_more : (types : List SqlType) (whole rows left next : List (List Value)) (blocks others more : List TypedCells) → Holds types whole left blocks → kinds_of others ≡ types
    → AreFilled (length rows) 0 others → rows_of (length rows) others ≡ rows → left ≡ rows ++ next → more ≡ joined (length blocks) blocks others → Holds types whole next more
holds_more types whole rows left next blocks others more h k f r w j =
    let n = common_length blocks in
    let count : length blocks ≡ length others = same_count blocks others (h.kinds ∙ sym k) in
    let common : common_length more ≡ n + length rows = ap common_length j ∙ common-joined n (length rows) blocks others h.some count h.filled f in
    record {
      some = omega (arith, ap length j, length-joined (length blocks) blocks others, h.some);
      kinds = ap kinds_of j ∙ kinds-joined blocks others (length blocks) ∙ h.kinds;
      filled = subst (λ c. AreFilled c 0 more) (sym common) (subst (AreFilled (n + length rows) 0) (sym j) (filled-joined n (length rows) blocks others count h.filled f));
      rows = ap (λ c. rows_of c more ++ next) common ∙ ap (λ bs. rows_of (n + length rows) bs ++ next) j
          ∙ ap (λ rs. rs ++ next) (rows-joined n (length rows) blocks others count h.filled f)
          ∙ append_assoc (rows_of n blocks) (rows_of (length rows) others) next ∙ ap (λ rs. rows_of n blocks ++ (rs ++ next)) r
          ∙ ap (λ rs. rows_of n blocks ++ rs) (sym w) ∙ h.rows;
    }
