-- What a move leaves of a list of stages, from what a call of one stage leaves.
use Rattle.std.proofs.lemmas.List.{get_or-set_other}
use Rattle.std.proofs.Common.{◌≡◌, ℕ, zero, suc, ◌+◌, ◌-◌, ◌<◌, List, [], ◌∷◌, ◌++◌, length, get_or, set, map, Bool, true, Result, Ok, Err, Option, Some, None, refl, sym, ap, subst, ◌∙◌, arith, append-nil}
use Rattle.sql_values.specs.declared.fail.Fail.{Fail}
use Rattle.col_pages.specs.Pages.{TypedPage}
use Rattle.operator_core.specs.declared.operator.Operator.{Ghosts}
use Rattle.operator_core.specs.Rows.{Row}
use Rattle.operator_core.specs.declared.fault.OpFault.{OpFault}
use Rattle.operator_core.specs.declared.fault.OpFault.TheVariants.{Expr, Memory}
use Rattle.operator_core.specs.Answers.{NotMemory, gave}
use Rattle.operator_core.specs.Calls.{Took, Gave, WasTold, FailsNow}
use Rattle.operator_core.specs.Stages.{Steps, Linked, ToldInTurn, giver_finished, last_finished}
use Rattle.operator_core.proofs.StageLemmas.{Steps-took, Steps-gave, Steps-told}
use Rattle.operator_core.proofs.LinkLemmas.{Linked-set, Linked-moved, Linked-front, Linked-last, map-set_made}
use Rattle.operator_core.proofs.TurnLemmas.{Turns-set, Turns-told}
use Rattle.stage_moves.specs.Moves.{Moved, SomeFails}
use Rattle.stage_moves.specs.Places.{AllStay}
use Rattle.stage_moves.proofs.PlaceLemmas.{AllStay-same, AllStay-then, AllStay-set}

pub length-set : {A : Type 0} (xs : List A) (i : ℕ) (x : A) → length (set xs i x) ≡ length xs
length-set [] i x = refl
length-set (y ∷ xs) zero x = refl
length-set (y ∷ xs) (suc i) x = ap suc (length-set xs i x)

pub get-set : {A : Type 0} (xs : List A) (i : ℕ) (x : A) → i < length xs → x ≡ get_or (set xs i x) i x
get-set [] i x h = absurd (omega arith)
get-set (y ∷ xs) zero x h = refl
get-set (y ∷ xs) (suc i) x h = get-set xs i x (omega arith)

pub err-err : {A B : Type 0} (f h : OpFault) → ◌≡◌ {A = Result A OpFault} (Err f) (Err h) → ◌≡◌ {A = Result B OpFault} (Err f) (Err h)
err-err f h same = let e : f ≡ h = cc in ap Err e

pub not-memory_err : (A B : Type 0) (f : OpFault) → NotMemory {A = A} (Err f) → NotMemory {A = B} (Err f)
not-memory_err A B (Expr node kind) ok = tt
not-memory_err A B Memory ok = absurd ok

module _ {S : Type 0} (g : Ghosts S) where
  -- the rows of what a call gave
  pub none-gave : (s t : S) (o : Option TypedPage) → o ≡ None → Gave g s t (gave (Ok o)) → Gave g s t []
  none-gave s t o e h = subst (λ (o : Option TypedPage). Gave g s t (gave (Ok o))) e h

  pub some-gave : (s t : S) (o : Option TypedPage) (page : TypedPage) → o ≡ Some page → Gave g s t (gave (Ok o)) → Gave g s t page.rows
  some-gave s t o page e h = subst (λ (o : Option TypedPage). Gave g s t (gave (Ok o))) e h

  pub Moved-none : (ss : List S) → Moved g ss ss [] []
  Moved-none ss = record {
    links = λ X Y l. subst (λ (x : List Row). Linked g ss x (Y ++ [])) (sym (append-nil X)) (subst (λ (y : List Row). Linked g ss X y) (sym (append-nil Y)) l);
    turns = λ ended t. t;
    made = refl;
    same = AllStay-same g ss;
  }

  -- a page goes past where there is no stage
  pub Moved-past : (ss : List S) (P : List Row) → length ss ≡ 0 → Moved g ss ss P P
  Moved-past [] P e = record { links = λ X Y l. ap (λ x. x ++ P) l; turns = λ ended t. t; made = refl; same = AllStay-same g [] }
  Moved-past (s ∷ ss) P e = absurd (omega (arith, e))

  -- the first stage took a page
  pub Moved-took : (ss : List S) (s t : S) (page : TypedPage) → 0 < length ss → s ≡ get_or ss 0 s → Took g s t page → Moved g ss (set ss 0 t) page.rows []
  Moved-took ss s t page h e took = record {
    links = λ X Y l. subst (λ (y : List Row). Linked g (set ss 0 t) (X ++ page.rows) y) (sym (append-nil Y))
        (Linked-front g ss s t page.rows X Y h e (λ A B steps. Steps-took g s t A B page took steps) l);
    turns = λ ended turns. Turns-set g ended ss 0 s t h e (λ told. sym took.told ∙ told) took.same.kept.over turns;
    made = map-set_made g ss 0 s t h e took.same.as_made;
    same = AllStay-set g ss 0 s t h e took.same;
  }

  -- the last stage gave a page, or none
  pub Moved-gave : (ss : List S) (i : ℕ) (s t : S) (P : List Row) → i + 1 ≡ length ss → s ≡ get_or ss i s → Gave g s t P → Moved g ss (set ss i t) [] P
  Moved-gave ss i s t P h e gave =
      let inside : i < length ss = omega (arith, h) in
      record {
        links = λ X Y l. subst (λ (x : List Row). Linked g (set ss i t) x (Y ++ P)) (sym (append-nil X))
            (Linked-last g ss i s t P X Y h e (λ A B steps. Steps-gave g s t A B P gave steps) l);
        turns = λ ended turns. Turns-set g ended ss i s t inside e (λ told. sym gave.told ∙ told) gave.same.kept.over turns;
        made = map-set_made g ss i s t inside e gave.same.as_made;
        same = AllStay-set g ss i s t inside e gave.same;
      }

  -- a stage gave nothing
  pub Moved-gave_none : (ss : List S) (i : ℕ) (s t : S) → i < length ss → s ≡ get_or ss i s → Gave g s t [] → Moved g ss (set ss i t) [] []
  Moved-gave_none ss i s t inside e gave = record {
    links = λ X Y l. subst (λ (x : List Row). Linked g (set ss i t) x (Y ++ [])) (sym (append-nil X)) (subst (λ (y : List Row). Linked g (set ss i t) X y) (sym (append-nil Y))
        (Linked-set g ss i s t X Y inside e (λ A B steps. subst (λ (b : List Row). Steps g t A b) (append-nil B) (Steps-gave g s t A B [] gave steps)) l));
    turns = λ ended turns. Turns-set g ended ss i s t inside e (λ told. sym gave.told ∙ told) gave.same.kept.over turns;
    made = map-set_made g ss i s t inside e gave.same.as_made;
    same = AllStay-set g ss i s t inside e gave.same;
  }

  -- a page went from a stage to the next
  pub Moved-page : (ss : List S) (i j : ℕ) (s t s' t' : S) (page : TypedPage) → j ≡ i + 1 → j < length ss → s ≡ get_or ss i s
      → t ≡ get_or (set ss i s') j t → Gave g s s' page.rows → Took g t t' page → Moved g ss (set (set ss i s') j t') [] []
  Moved-page ss i j s t s' t' page next h es et' gave took =
      let et : t ≡ get_or ss j t = et' ∙ get_or-set_other ss i j s' t (λ same. absurd (omega (arith, next, same))) in
      let inside : i < length ss = omega (arith, h, next) in
      let inside' : j < length (set ss i s') = rw (length-set ss i s') h in
      record {
        links = λ X Y l. subst (λ (x : List Row). Linked g (set (set ss i s') j t') x (Y ++ [])) (sym (append-nil X))
            (subst (λ (y : List Row). Linked g (set (set ss i s') j t') X y) (sym (append-nil Y))
            (Linked-moved g ss i j s t s' t' page.rows X Y next h es et (λ A B steps. Steps-gave g s s' A B page.rows gave steps) (λ A B steps. Steps-took g t t' A B page took steps) l));
        turns = λ ended turns. Turns-set g ended (set ss i s') j t t' inside' et' (λ told. sym took.told ∙ told) took.same.kept.over
            (Turns-set g ended ss i s s' inside es (λ told. sym gave.told ∙ told) gave.same.kept.over turns);
        made = map-set_made g (set ss i s') j t t' inside' et' took.same.as_made ∙ map-set_made g ss i s s' inside es gave.same.as_made;
        same = AllStay-then g ss (set ss i s') (set (set ss i s') j t') (AllStay-set g ss i s s' inside es gave.same) (AllStay-set g (set ss i s') j t t' inside' et' took.same);
      }

  -- a stage whose giver is finished was told to finish
  pub Told-links : (ss : List S) (i : ℕ) (s t : S) → i < length ss → s ≡ get_or ss i s → WasTold g s t
      → (X Y : List Row) → Linked g ss X Y → Linked g (set ss i t) X Y
  Told-links ss i s t h e told X Y l = Linked-set g ss i s t X Y h e (λ A B steps. Steps-told g s t A B told steps) l

  pub Told-turns : (ended : Bool) (ss : List S) (i : ℕ) (s t : S) → i < length ss → s ≡ get_or ss i s → giver_finished g ended ss i ≡ true → WasTold g s t
      → ToldInTurn g ended ss → ToldInTurn g ended (set ss i t)
  Told-turns ended ss i s t h e giver told turns = Turns-told g ended ss i s t h e giver told.same.kept.over turns

  pub Told-made : (ss : List S) (i : ℕ) (s t : S) → i < length ss → s ≡ get_or ss i s → WasTold g s t → map g.as_made (set ss i t) ≡ map g.as_made ss
  Told-made ss i s t h e told = map-set_made g ss i s t h e told.same.as_made

  pub Told-same : (ss : List S) (i : ℕ) (s t : S) → i < length ss → s ≡ get_or ss i s → WasTold g s t → AllStay g ss (set ss i t)
  Told-same ss i s t h e told = AllStay-set g ss i s t h e told.same

  pub SomeFails-at : (ss : List S) (i : ℕ) (t : S) (node : ℕ) (kind : Fail) → i < length ss → FailsNow g t node kind → SomeFails g (set ss i t) node kind
  SomeFails-at ss i t node kind h fails = record { place = i; stage = t; there = rw (length-set ss i t) h; is = get-set ss i t h; fails = fails }

  -- the giver of a stage behind another is that one
  giver-next : (ended : Bool) (ss : List S) (i : ℕ) (s : S) → i < length ss → s ≡ get_or ss i s → giver_finished g ended ss (suc i) ≡ g.is_finished s
  giver-next ended [] i s h e = absurd (omega arith)
  giver-next ended (k ∷ ss) zero s h e = ap g.is_finished (sym e)
  giver-next ended (k ∷ ss) (suc i) s h e = giver-next (g.is_finished k) ss i s (omega arith) e

  pub giver-before : (ended : Bool) (ss : List S) (i : ℕ) (s : S) → 0 < i → i < length ss → s ≡ get_or ss (i - 1) s → g.is_finished s ≡ giver_finished g ended ss i
  giver-before ended ss zero s some h e = absurd (omega (arith, some))
  giver-before ended ss (suc i) s some h e =
      let one : suc i - 1 ≡ i = omega arith in
      sym (giver-next ended ss i s (omega (arith, h)) (e ∙ ap (λ k. get_or ss k s) one))

  -- a stage stands last
  last-next : (ended : Bool) (ss : List S) (i : ℕ) (s : S) → suc i ≡ length ss → s ≡ get_or ss i s → g.is_finished s ≡ last_finished g ended ss
  last-next ended [] i s h e = absurd (omega (arith, h))
  last-next ended (k ∷ []) zero s h e = ap g.is_finished e
  last-next ended (k ∷ []) (suc i) s h e = absurd (omega (arith, h))
  last-next ended (k ∷ m ∷ ss) zero s h e = absurd (omega (arith, h))
  last-next ended (k ∷ m ∷ ss) (suc i) s h e = last-next (g.is_finished k) (m ∷ ss) i s (omega (arith, h)) e

  pub last-is : (ended : Bool) (ss : List S) (s : S) → 0 < length ss → s ≡ get_or ss (length ss - 1) s → g.is_finished s ≡ last_finished g ended ss
  last-is ended ss s some e = last-next ended ss (length ss - 1) s (omega (arith, some)) e
