-- Columns behind columns hold the rows behind the rows.
use Rattle.std.proofs.Common.{◌≡◌, ℕ, ◌+◌, ◌<◌, zero, suc, List, [], ◌∷◌, ◌++◌, length, get_or, set, take, drop, Bool, true, refl, ap, sym, ◌∙◌, length-append, arith, add-one}
use Rattle.std.specs.Prelude.{◌↔◌, IsTrue, map, if◌then◌else◌}
use Rattle.std.proofs.lemmas.List.{replicate-append-replicate, take_all, take_at}
use Rattle.sql_values.specs.declared.types.SqlType.{SqlType}
use Rattle.sql_values.specs.declared.value.Value.{Value}
use Rattle.sql_values.specs.Blocks.{TypedCells, with_cells}
use Rattle.sql_values.specs.ColumnRows.{cons_each, rows_of, kinds_of, common_length, AreFilled}
use Rattle.sql_values.proofs.ColumnRowsLemmas.{length-rows_of}
use Rattle.column_moves.specs.Joined.{joined}

pub joined-none : (cs : List TypedCells) → joined cs [] ≡ cs
joined-none [] = refl
joined-none (c ∷ cs) = refl

pub kinds-joined : (cs ds : List TypedCells) → kinds_of (joined cs ds) ≡ kinds_of cs
kinds-joined [] ds = refl
kinds-joined (c ∷ cs) [] = refl
kinds-joined (c ∷ cs) (d ∷ ds) = ap (λ ks. c.kind ∷ ks) (kinds-joined cs ds)

first-kind : (a b : SqlType) (ks ls : List SqlType) → a ∷ ks ≡ b ∷ ls → a ≡ b
first-kind a b ks ls e = cc

later-kinds : (a b : SqlType) (ks ls : List SqlType) → a ∷ ks ≡ b ∷ ls → ks ≡ ls
later-kinds a b ks ls e = cc

-- the column at a place took the cells of the other one there
joined-step : (cs ds : List TypedCells) (i : ℕ) (c d : TypedCells) (taken : Bool) → kinds_of cs ≡ kinds_of ds → i < length ds
    → c ≡ get_or (joined cs (take i ds)) i c → d ≡ get_or ds i d → (IsTrue taken ↔ (c.kind ≡ d.kind))
    → set (joined cs (take i ds)) i (with_cells c (if taken then c.cells ++ d.cells else c.cells)) ≡ joined cs (take (suc i) ds)
joined-step [] [] i c d taken k l e f same = absurd (omega arith)
joined-step [] (b ∷ ds) i c d taken k l e f same = absurd (cc)
joined-step (a ∷ cs) [] i c d taken k l e f same = absurd (omega arith)
joined-step (a ∷ cs) (b ∷ ds) zero c d taken k l e f same =
    let kind : c.kind ≡ d.kind = ap (λ (x : TypedCells). x.kind) e ∙ first-kind a.kind b.kind (kinds_of cs) (kinds_of ds) k ∙ sym (ap (λ (x : TypedCells). x.kind) f) in
    let took : taken ≡ true = same.1 kind in
    ap (λ t. with_cells c (if t then c.cells ++ d.cells else c.cells) ∷ cs) took
    ∙ ap (λ (x : TypedCells). with_cells x (x.cells ++ d.cells) ∷ cs) e
    ∙ ap (λ (y : TypedCells). with_cells a (a.cells ++ y.cells) ∷ cs) f
    ∙ ap (λ xs. with_cells a (a.cells ++ b.cells) ∷ xs) (sym (joined-none cs))
joined-step (a ∷ cs) (b ∷ ds) (suc i) c d taken k l e f same =
    ap (λ xs. with_cells a (a.cells ++ b.cells) ∷ xs)
    (joined-step cs ds i c d taken (later-kinds a.kind b.kind (kinds_of cs) (kinds_of ds) k) (omega arith) e f same)

pub joined-more : (cs ds now : List TypedCells) (i : ℕ) (c d : TypedCells) (taken : Bool) → kinds_of cs ≡ kinds_of ds → now ≡ joined cs (take i ds) → i < length ds
    → c ≡ get_or now i c → d ≡ get_or ds i d → (IsTrue taken ↔ (c.kind ≡ d.kind))
    → set now i (with_cells c (if taken then c.cells ++ d.cells else c.cells)) ≡ joined cs (take (i + 1) ds)
joined-more cs ds now i c d taken k n l e f same =
    ap (λ xs. set xs i (with_cells c (if taken then c.cells ++ d.cells else c.cells))) n
    ∙ rw add-one (joined-step cs ds i c d taken k l (e ∙ ap (λ xs. get_or xs i c) n) f same)

no-item : (d : TypedCells) (left : List TypedCells) → [] ≡ d ∷ left → ⊥
no-item d left e = let none : 0 ≡ suc (length left) = ap length e in omega (arith, none)

-- the first of those that are left from a place on
pub left-first : (ds : List TypedCells) (i : ℕ) (d : TypedCells) (left : List TypedCells) → drop i ds ≡ d ∷ left → (i < length ds) × (d ≡ get_or ds i d) × (drop (suc i) ds ≡ left)
left-first [] zero d left e = absurd (no-item d left e)
left-first [] (suc i) d left e = absurd (no-item d left e)
left-first (b ∷ ds) zero d left e = (omega arith, sym (ap (λ (xs : List TypedCells). get_or xs 0 d) e), ap (λ (xs : List TypedCells). drop 1 xs) e)
left-first (b ∷ ds) (suc i) d left e =
    let there = left-first ds i d left e in (omega (arith, there.0), there.1, there.2)

pub length-joined : (cs ds : List TypedCells) → length (joined cs ds) ≡ length cs
length-joined [] ds = refl
length-joined (c ∷ cs) [] = refl
length-joined (c ∷ cs) (d ∷ ds) = ap suc (length-joined cs ds)

pub length-kinds : (cs ds : List TypedCells) → kinds_of cs ≡ kinds_of ds → length cs ≡ length ds
length-kinds [] [] k = refl
length-kinds [] (d ∷ ds) k = cc
length-kinds (c ∷ cs) [] k = cc
length-kinds (c ∷ cs) (d ∷ ds) k = ap suc (length-kinds cs ds (later-kinds c.kind d.kind (kinds_of cs) (kinds_of ds) k))

module _ (n m : ℕ) where
  filled-joined : (cs ds : List TypedCells) → kinds_of cs ≡ kinds_of ds → AreFilled n zero cs → AreFilled m zero ds → AreFilled (n + m) zero (joined cs ds)
  filled-joined [] ds k f g = refl
  filled-joined (c ∷ cs) [] k f g = cc
  filled-joined (c ∷ cs) (d ∷ ds) k f g =
      (omega (arith, f.0, g.0, length-append c.cells d.cells), filled-joined cs ds (later-kinds c.kind d.kind (kinds_of cs) (kinds_of ds) k) f.1 g.1)

  common-joined : (cs ds : List TypedCells) → kinds_of cs ≡ kinds_of ds → 0 < length cs → AreFilled n zero cs → AreFilled m zero ds → common_length (joined cs ds) ≡ n + m
  common-joined [] ds k l f g = absurd (omega arith)
  common-joined (c ∷ cs) [] k l f g = cc
  common-joined (c ∷ cs) (d ∷ ds) k l f g = omega (arith, f.0, g.0, length-append c.cells d.cells)

  cons_each-both : (vs ws : List Value) (rows more : List (List Value)) → length vs ≡ length rows → cons_each (vs ++ ws) (rows ++ more) ≡ cons_each vs rows ++ cons_each ws more
  cons_each-both [] ws [] more e = refl
  cons_each-both [] ws (row ∷ rows) more e = absurd (omega arith)
  cons_each-both (v ∷ vs) ws [] more e = absurd (omega arith)
  cons_each-both (v ∷ vs) ws (row ∷ rows) more e = ap (λ x. (v ∷ row) ∷ x) (cons_each-both vs ws rows more (omega arith))

  rows-joined : (cs ds : List TypedCells) → kinds_of cs ≡ kinds_of ds → AreFilled n zero cs → AreFilled m zero ds → rows_of (n + m) (joined cs ds) ≡ rows_of n cs ++ rows_of m ds
  rows-joined [] [] k f g = sym (replicate-append-replicate n m [])
  rows-joined [] (d ∷ ds) k f g = cc
  rows-joined (c ∷ cs) [] k f g = cc
  rows-joined (c ∷ cs) (d ∷ ds) k f g =
      let later = later-kinds c.kind d.kind (kinds_of cs) (kinds_of ds) k in
      let long : length (rows_of n cs) ≡ n = length-rows_of n zero cs f.1 in
      ap (cons_each (c.cells ++ d.cells)) (rows-joined cs ds later f.1 g.1)
      ∙ cons_each-both c.cells d.cells (rows_of n cs) (rows_of m ds) (f.0 ∙ sym long)

-- the same of the columns of two lists of rows
module _ (cs ds all : List TypedCells) (rows more : List (List Value)) (same : kinds_of cs ≡ kinds_of ds) (is : all ≡ joined cs ds) (some : 0 < length cs)
    (filled : AreFilled (length rows) zero cs) (filled' : AreFilled (length more) zero ds)
    (holds : rows_of (length rows) cs ≡ rows) (holds' : rows_of (length more) ds ≡ more) where
  pub whole-some : 0 < length all
  whole-some = rw is (omega (arith, length-joined cs ds, some))

  pub whole-kinds : kinds_of all ≡ kinds_of cs
  whole-kinds = ap kinds_of is ∙ kinds-joined cs ds

  long : common_length all ≡ length rows + length more
  long = ap common_length is ∙ common-joined (length rows) (length more) cs ds same some filled filled'

  pub whole-filled : AreFilled (common_length all) zero all
  whole-filled = rw long (rw is (filled-joined (length rows) (length more) cs ds same filled filled'))

  pub whole-rows : rows_of (common_length all) all ≡ rows ++ more
  whole-rows =
      ap (λ n. rows_of n all) long ∙ ap (rows_of (length rows + length more)) is ∙ rows-joined (length rows) (length more) cs ds same filled filled'
      ∙ ap (λ x. x ++ rows_of (length more) ds) holds ∙ ap (λ x. rows ++ x) holds'

-- columns of a length are as they were where they are cut to it
cut_whole : (n : ℕ) (cs : List TypedCells) → AreFilled n zero cs → map (λ c. with_cells c (take n c.cells)) cs ≡ cs
cut_whole n [] f = refl
cut_whole n (c ∷ cs) f =
    ap (λ vs. with_cells c vs ∷ map (λ c. with_cells c (take n c.cells)) cs) (take_all n c.cells (omega (arith, f.0)))
    ∙ ap (λ xs. c ∷ xs) (cut_whole n cs f.1)

-- cut back to their length the columns are as they were
pub cut_back : (n i : ℕ) (cs ds : List TypedCells) → AreFilled n zero cs → map (λ c. with_cells c (take n c.cells)) (joined cs (take i ds)) ≡ cs
cut_back n i [] ds f = refl
cut_back n zero (c ∷ cs) ds f = cut_whole n (c ∷ cs) f
cut_back n (suc i) (c ∷ cs) [] f = cut_whole n (c ∷ cs) f
cut_back n (suc i) (c ∷ cs) (d ∷ ds) f =
    ap (λ vs. with_cells c vs ∷ map (λ c. with_cells c (take n c.cells)) (joined cs (take i ds))) (take_at c.cells d.cells n (f.0))
    ∙ ap (λ xs. c ∷ xs) (cut_back n i cs ds f.1)
