-- How many rows entered after a move, from what a call of one stage leaves.
use Rattle.std.proofs.lemmas.List.{get_or-set_other}
use Rattle.std.proofs.Common.{◌≡◌, ℕ, zero, suc, ◌+◌, ◌<◌, List, [], ◌∷◌, ◌++◌, length, get_or, set, Option, None, Ok, Bool, true, false, ◌≤◌, refl, sym, ap, subst, ◌∙◌, arith, add-one, add-zero, append-nil, length-append}
use Rattle.std.specs.Prelude.{nat_lt}
use Rattle.std.proofs.lemmas.Bool.{ltb-true}
use Rattle.col_pages.specs.Pages.{TypedPage}
use Rattle.operator_core.specs.declared.operator.Operator.{Ghosts}
use Rattle.operator_core.specs.Answers.{gave}
use Rattle.operator_core.specs.Rows.{Row}
use Rattle.operator_core.specs.Calls.{Took, Gave, WasTold, Looked}
use Rattle.operator_core.specs.Stages.{Steps, Linked}
use Rattle.operator_core.proofs.StageLemmas.{Steps-took, Steps-gave, Steps-told, Steps-gave_none, Steps-looked}
use Rattle.stage_moves.specs.Counts.{LinkedBy, Counted}

module _ {S : Type 0} (g : Ghosts S) where
  -- what is counted is linked, and what is linked has its count
  pub LinkedBy-linked : (ss : List S) (X Y : List Row) (n : ℕ) → LinkedBy g ss X Y n → Linked g ss X Y
  LinkedBy-linked [] X Y n l = l.0
  LinkedBy-linked (s ∷ ss) X Y n l = (l.0, l.2, LinkedBy-linked ss l.0 Y l.1 l.3)

  pub LinkedBy-some : (ss : List S) (X Y : List Row) → Linked g ss X Y → (n : ℕ) × LinkedBy g ss X Y n
  LinkedBy-some [] X Y l = (length Y, (l, refl))
  LinkedBy-some (s ∷ ss) X Y l = let r = LinkedBy-some ss l.0 Y l.2 in (length X + r.0, (l.0, r.0, l.1, r.1, refl))

  -- one stage changes and neither takes nor gives
  By-set : (ss : List S) (i : ℕ) (s t : S) (X Y : List Row) (n : ℕ) → i < length ss → s ≡ get_or ss i s
      → ((A B : List Row) → Steps g s A B → Steps g t A B) → LinkedBy g ss X Y n → LinkedBy g (set ss i t) X Y n
  By-set [] i s t X Y n h e step l = absurd (omega arith)
  By-set (k ∷ ss) zero s t X Y n h e step l = (l.0, l.1, step X l.0 (subst (λ (k : S). Steps g k X l.0) (sym e) l.2), l.3, l.4)
  By-set (k ∷ ss) (suc i) s t X Y n h e step l = (l.0, l.1, l.2, By-set ss i s t l.0 Y l.1 (omega arith) e step l.3, l.4)

  later : (n x m p : ℕ) → n ≡ x + m → n + p ≡ x + (m + p)
  later n x m p e = omega (arith, e)

  longer : (n m : ℕ) (X P : List Row) → n ≡ length X + m → n + length P ≡ length (X ++ P) + m
  longer n m X P e = omega (arith, e, length-append X P)

  next-page : (ss : List S) (i : ℕ) (s t s' t' : S) (P X Y : List Row) (n : ℕ) → suc i < length ss → s ≡ get_or ss i s → t ≡ get_or ss (suc i) t
      → ((A B : List Row) → Steps g s A B → Steps g s' A (B ++ P)) → ((A B : List Row) → Steps g t A B → Steps g t' (A ++ P) B)
      → LinkedBy g ss X Y n → LinkedBy g (set (set ss i s') (suc i) t') X Y (n + length P)
  next-page [] i s t s' t' P X Y n h es et gives takes l = absurd (omega arith)
  next-page (k ∷ []) i s t s' t' P X Y n h es et gives takes l = absurd (omega arith)
  next-page (k ∷ m ∷ ss) zero s t s' t' P X Y n h es et gives takes l = (
    l.0 ++ P,
    l.1 + length P,
    gives X l.0 (subst (λ (k : S). Steps g k X l.0) (sym es) l.2),
    (l.3.0, l.3.1, takes l.0 l.3.0 (subst (λ (k : S). Steps g k l.0 l.3.0) (sym et) l.3.2), l.3.3, longer l.1 l.3.1 l.0 P l.3.4),
    later n (length X) l.1 (length P) l.4,
  )
  next-page (k ∷ m ∷ ss) (suc i) s t s' t' P X Y n h es et gives takes l =
      (l.0, l.1 + length P, l.2, next-page (m ∷ ss) i s t s' t' P l.0 Y l.1 (omega arith) es et gives takes l.3, later n (length X) l.1 (length P) l.4)

  By-page : (ss : List S) (i j : ℕ) (s t s' t' : S) (P X Y : List Row) (n : ℕ) → j ≡ i + 1 → j < length ss → s ≡ get_or ss i s → t ≡ get_or ss j t
      → ((A B : List Row) → Steps g s A B → Steps g s' A (B ++ P)) → ((A B : List Row) → Steps g t A B → Steps g t' (A ++ P) B)
      → LinkedBy g ss X Y n → LinkedBy g (set (set ss i s') j t') X Y (n + length P)
  By-page ss i j s t s' t' P X Y n next h es et gives takes l =
      let e : j ≡ suc i = next ∙ add-one i in
      subst (λ (j : ℕ). LinkedBy g (set (set ss i s') j t') X Y (n + length P)) (sym e)
      (next-page ss i s t s' t' P X Y n (omega arith) es (subst (λ (j : ℕ). t ≡ get_or ss j t) e et) gives takes l)

  -- the first stage took a page of the source
  By-front : (ss : List S) (s t : S) (P X Y : List Row) (n : ℕ) → 0 < length ss → s ≡ get_or ss 0 s
      → ((A B : List Row) → Steps g s A B → Steps g t (A ++ P) B) → LinkedBy g ss X Y n → LinkedBy g (set ss 0 t) (X ++ P) Y (n + length P)
  By-front [] s t P X Y n h e takes l = absurd (omega arith)
  By-front (k ∷ ss) s t P X Y n h e takes l = (l.0, l.1, takes X l.0 (subst (λ (k : S). Steps g k X l.0) (sym e) l.2), l.3, longer n l.1 X P l.4)

  -- the last stage gave a page to the target
  at-end : (n : ℕ) (Y P : List Row) → n ≡ length Y → n + length P ≡ length (Y ++ P)
  at-end n Y P e = omega (arith, e, length-append Y P)

  By-last : (ss : List S) (i : ℕ) (s t : S) (P X Y : List Row) (n : ℕ) → i + 1 ≡ length ss → s ≡ get_or ss i s
      → ((A B : List Row) → Steps g s A B → Steps g t A (B ++ P)) → LinkedBy g ss X Y n → LinkedBy g (set ss i t) X (Y ++ P) (n + length P)
  By-last [] i s t P X Y n h e gives l = absurd (omega arith)
  By-last (k ∷ []) zero s t P X Y n h e gives l = (
    l.0 ++ P,
    l.1 + length P,
    gives X l.0 (subst (λ (k : S). Steps g k X l.0) (sym e) l.2),
    (ap (λ y. y ++ P) l.3.0, at-end l.1 Y P l.3.1),
    later n (length X) l.1 (length P) l.4,
  )
  By-last (k ∷ []) (suc i) s t P X Y n h e gives l = absurd (omega arith)
  By-last (k ∷ m ∷ ss) zero s t P X Y n h e gives l = absurd (omega arith)
  By-last (k ∷ m ∷ ss) (suc i) s t P X Y n h e gives l =
      (l.0, l.1 + length P, l.2, By-last (m ∷ ss) i s t P l.0 Y l.1 (omega arith) e gives l.3, later n (length X) l.1 (length P) l.4)

  none-more : (ss : List S) (X Y : List Row) (n : ℕ) → LinkedBy g ss X Y n → LinkedBy g ss X Y (n + 0)
  none-more ss X Y n l = subst (λ (n : ℕ). LinkedBy g ss X Y n) (sym (add-zero n)) l

  -- nothing moved
  pub Counted-none : (ss : List S) (X A Y : List Row) → A ≡ X → Counted g ss ss X A Y Y 0
  Counted-none ss X A Y e = record { entered = λ n l. none-more ss A Y n (subst (λ (x : List Row). LinkedBy g ss x Y n) (sym e) l) }

  pub Counted-still : (ss : List S) (X A Y : List Row) → A ≡ X → Counted g ss ss X A Y (Y ++ []) 0
  Counted-still ss X A Y e = subst (λ (y : List Row). Counted g ss ss X A Y y 0) (sym (append-nil Y)) (Counted-none ss X A Y e)

  -- no page was out
  pub Counted-in : (old new : List S) (X A Y : List Row) (rows : ℕ) (o : Option TypedPage) → o ≡ None → Counted g old new X A Y (Y ++ gave (Ok o)) rows
      → Counted g old new X A Y Y rows
  Counted-in old new X A Y rows o e c = subst (λ (y : List Row). Counted g old new X A Y y rows) (append-nil Y)
      (subst (λ (o : Option TypedPage). Counted g old new X A Y (Y ++ gave (Ok o)) rows) e c)

  -- a page goes past where there is no stage
  pub Counted-past : (ss : List S) (P X Y : List Row) → length ss ≡ 0 → Counted g ss ss X (X ++ P) Y (Y ++ P) (length P)
  Counted-past [] P X Y e = record { entered = λ n l. (ap (λ x. x ++ P) l.0, at-end n Y P l.1) }
  Counted-past (s ∷ ss) P X Y e = absurd (omega (arith, e))

  -- the first stage took a page
  pub Counted-took : (ss : List S) (s t : S) (page : TypedPage) (X Y : List Row) → 0 < length ss → s ≡ get_or ss 0 s → Took g s t page
      → Counted g ss (set ss 0 t) X (X ++ page.rows) Y (Y ++ []) (length page.rows)
  Counted-took ss s t page X Y h e took = record {
    entered = λ n l. subst (λ (y : List Row). LinkedBy g (set ss 0 t) (X ++ page.rows) y (n + length page.rows)) (sym (append-nil Y))
        (By-front ss s t page.rows X Y n h e (λ A B steps. Steps-took g s t A B page took steps) l);
  }

  -- the last stage gave a page, or none
  pub Counted-gave : (ss : List S) (i : ℕ) (s t : S) (P X Y : List Row) → i + 1 ≡ length ss → s ≡ get_or ss i s → Gave g s t P
      → Counted g ss (set ss i t) X X Y (Y ++ P) (length P)
  Counted-gave ss i s t P X Y h e gave = record { entered = λ n l. By-last ss i s t P X Y n h e (λ A B steps. Steps-gave g s t A B P gave steps) l }

  -- a stage gave nothing
  pub Counted-gave_none : (ss : List S) (i : ℕ) (s t : S) (X Y : List Row) → i < length ss → s ≡ get_or ss i s → Gave g s t [] → Counted g ss (set ss i t) X X Y Y 0
  Counted-gave_none ss i s t X Y inside e gave =
      record { entered = λ n l. none-more (set ss i t) X Y n (By-set ss i s t X Y n inside e (λ A B steps. Steps-gave_none g s t A B gave steps) l) }

  -- a page went from a stage to the next
  pub Counted-page : (ss : List S) (i j : ℕ) (s t s' t' : S) (page : TypedPage) (X Y : List Row) → j ≡ i + 1 → j < length ss → s ≡ get_or ss i s
      → t ≡ get_or (set ss i s') j t → Gave g s s' page.rows → Took g t t' page → Counted g ss (set (set ss i s') j t') X X Y Y (length page.rows)
  Counted-page ss i j s t s' t' page X Y next h es et' gave took =
      let et : t ≡ get_or ss j t = et' ∙ get_or-set_other ss i j s' t (λ same. absurd (omega (arith, next, same))) in
      record {
        entered = λ n l. By-page ss i j s t s' t' page.rows X Y n next h es et
            (λ A B steps. Steps-gave g s s' A B page.rows gave steps) (λ A B steps. Steps-took g t t' A B page took steps) l;
      }

  -- a stage was told to finish
  pub Counted-told : (ss : List S) (i : ℕ) (s t : S) (X Y : List Row) → i < length ss → s ≡ get_or ss i s → WasTold g s t → Counted g ss (set ss i t) X X Y Y 0
  Counted-told ss i s t X Y h e told =
      record { entered = λ n l. none-more (set ss i t) X Y n (By-set ss i s t X Y n h e (λ A B steps. Steps-told g s t A B told steps) l) }

  -- a stage looked at its note
  pub Counted-looked : (ss : List S) (i : ℕ) (s t : S) (X Y : List Row) → i < length ss → s ≡ get_or ss i s → Looked g s t → Counted g ss (set ss i t) X X Y Y 0
  Counted-looked ss i s t X Y h e looked =
      record { entered = λ n l. none-more (set ss i t) X Y n (By-set ss i s t X Y n h e (λ A B steps. Steps-looked g s t A B looked steps) l) }

  pub Counted-then : (old mid new : List S) (X A C Y B D : List Row) (rows more : ℕ) → Counted g old mid X A Y B rows → Counted g mid new A C B D more
      → Counted g old new X C Y D (rows + more)
  Counted-then old mid new X A C Y B D rows more c d = record {
    entered = λ n l. let e : n + rows + more ≡ n + (rows + more) = omega arith in
        subst (λ (n : ℕ). LinkedBy g new C D n) e (d.entered (n + rows) (c.entered n l));
  }

  pub Counted-both : (old mid new : List S) (X A C Y B D : List Row) (rows more all : ℕ) → Counted g old mid X A Y B rows → Counted g mid new A C B D more
      → all ≡ rows + more → Counted g old new X C Y D all
  Counted-both old mid new X A C Y B D rows more all c d e =
      subst (λ (n : ℕ). Counted g old new X C Y D n) (sym e) (Counted-then old mid new X A C Y B D rows more c d)

  pub Counted-is : (old new : List S) (X A Y B : List Row) (rows all : ℕ) → rows ≡ all → Counted g old new X A Y B rows → Counted g old new X A Y B all
  Counted-is old new X A Y B rows all e c = subst (λ (n : ℕ). Counted g old new X A Y B n) e c

  -- nothing entered, and then so many rows
  pub Counted-after : (old mid new : List S) (X A Y B : List Row) (rows : ℕ) → Counted g old mid X X Y Y 0 → Counted g mid new X A Y B rows → Counted g old new X A Y B rows
  Counted-after old mid new X A Y B rows c d =
      let e : rows ≡ 0 + rows = omega arith in Counted-both old mid new X X A Y Y B 0 rows rows c d e

  -- the first stage took what the source gave
  pub Counted-fed : (old new : List S) (P X A Y : List Row) (rows : ℕ) (o : Option TypedPage) → o ≡ None
      → Counted g old new X (X ++ P) Y (Y ++ gave (Ok o)) (length P) → A ≡ X ++ P → rows ≡ length P → Counted g old new X A Y Y rows
  Counted-fed old new P X A Y rows o e c a n =
      let none : Counted g old new X (X ++ P) Y (Y ++ []) (length P) = subst (λ (o : Option TypedPage). Counted g old new X (X ++ P) Y (Y ++ gave (Ok o)) (length P)) e c in
      subst (λ (x : List Row). Counted g old new X x Y Y rows) (sym a)
      (subst (λ (m : ℕ). Counted g old new X (X ++ P) Y Y m) (sym n) (subst (λ (y : List Row). Counted g old new X (X ++ P) Y y (length P)) (append-nil Y) none))

  -- a page was taken and others moved on, and none is out
  pub Counted-moved_on : (old mid new : List S) (X A P Q : List Row) (rows more all : ℕ) → P ≡ [] → Q ≡ [] → ((Y : List Row) → Counted g old mid X A Y (Y ++ P) rows)
      → ((Y : List Row) → Counted g mid new A A Y Y more) → all ≡ rows + more → (Y : List Row) → Counted g old new X A Y (Y ++ Q) all
  Counted-moved_on old mid new X A P Q rows more all none out c d e Y =
      let first : Counted g old mid X A Y Y rows = subst (λ (y : List Row). Counted g old mid X A Y y rows) (ap (λ p. Y ++ p) none ∙ append-nil Y) (c Y) in
      subst (λ (y : List Row). Counted g old new X A Y y all) (sym (ap (λ q. Y ++ q) out ∙ append-nil Y)) (Counted-both old mid new X A A Y Y Y rows more all first (d Y) e)

  -- then the last stage gave
  pub Counted-given : (old mid new : List S) (X A P R Y : List Row) (rows more all : ℕ) → P ≡ [] → Counted g old mid X A Y (Y ++ P) rows → Counted g mid new A A Y (Y ++ R) more
      → all ≡ rows + more → Counted g old new X A Y (Y ++ R) all
  Counted-given old mid new X A P R Y rows more all none c d e =
      Counted-both old mid new X A A Y Y (Y ++ R) rows more all (subst (λ (y : List Row). Counted g old mid X A Y y rows) (ap (λ p. Y ++ p) none ∙ append-nil Y) c) d e

  pub Counted-none_out : (old new : List S) (X A Y : List Row) (rows : ℕ) → Counted g old new X A Y Y rows → Counted g old new X A Y (Y ++ []) rows
  Counted-none_out old new X A Y rows c = subst (λ (y : List Row). Counted g old new X A Y y rows) (sym (append-nil Y)) c

-- a page is moved only where fewer rows than there is room for were
pub few-more : (moved room most from rows added : ℕ) → moved < room + most → rows ≤ most → (nat_lt moved from ≡ false → rows ≡ 0) → from ≡ room → added ≡ rows
    → moved + added < room + most
few-more moved room most from rows added few size none e same =
    let go : (b : Bool) → nat_lt moved from ≡ b → moved + added < room + most =
    elim [ true ↦ λ t. omega (arith, few, size, e, same, ltb-true moved from t) | false ↦ λ f. omega (arith, few, same, none f) ] in
    go (nat_lt moved from) refl
