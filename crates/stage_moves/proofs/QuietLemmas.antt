-- What moves leave of stages of which no page can move.
use Rattle.std.proofs.lemmas.Bool.{lt-ltb}
use Rattle.std.proofs.Common.{◌≡◌, ℕ, zero, suc, ◌+◌, ◌<◌, ◌≤◌, List, [], ◌∷◌, length, get_or, set, Bool, true, false, Option, Some, None, Result, Ok, Err, refl, sym, ap, subst, ◌∙◌, arith, add-one}
use Rattle.std.specs.Prelude.{IsOk, IfOk, IfSome, nat_lt}
use Rattle.col_pages.specs.Pages.{TypedPage}
use Rattle.operator_core.specs.declared.fault.OpFault.{OpFault}
use Rattle.operator_core.specs.declared.operator.Operator.{Ghosts}
use Rattle.operator_core.specs.Answers.{IsFit, NotMemory, gave}
use Rattle.operator_core.specs.Rows.{Coming}
use Rattle.operator_core.specs.Calls.{IsLawful, Gave, WasTold}
use Rattle.stage_moves.proofs.MoveLemmas.{get-set, length-set}
use Rattle.stage_moves.specs.Quiet.{AreStill, last_holds, IsQuiet, NeedsLaws}

-- by cases on a truth value
by_cases : (P : Type 0) (b : Bool) → (b ≡ true → P) → (b ≡ false → P) → P
by_cases P true on off = on refl
by_cases P false on off = off refl

-- two items that stand at one place
same-item : {A : Type 0} (xs : List A) (i : ℕ) (x y : A) → i < length xs → x ≡ get_or xs i x → y ≡ get_or xs i y → x ≡ y
same-item [] i x y h ex ey = absurd (omega arith)
same-item (a ∷ xs) zero x y h ex ey = ex ∙ sym ey
same-item (a ∷ xs) (suc i) x y h ex ey = same-item xs i x y (omega arith) ex ey

no-rows-come : (told : Bool) → Coming told []
no-rows-come true = refl
no-rows-come false = tt

-- a page that was given has a row
pub fit-none : (r : Result (Option TypedPage) OpFault) (most : ℕ) → IsFit r most → IsOk r → length (gave r) ≡ 0 → r ≡ Ok None
fit-none (Ok None) most fit ok none = refl
fit-none (Ok (Some page)) most fit ok none = absurd (omega (arith, fit.0, none))
fit-none (Err fault) most fit ok none = absurd (let clash : false ≡ true = ok in cc)

pub fit-some : (r : Result (Option TypedPage) OpFault) (o : Option TypedPage) (page : TypedPage) (most : ℕ) → r ≡ Ok o → o ≡ Some page → IsFit r most → 0 < length page.rows
fit-some r o page most is some fit =
    let all : IsFit (Ok o) most = subst (λ (r : Result (Option TypedPage) OpFault). IsFit r most) is fit in
    let this : IsFit (Ok (Some page)) most = subst (λ (o : Option TypedPage). IsFit (Ok o) most) some all in
    this.0

-- fewer were moved than there is room for, where none was
pub has-room : (moved from room : ℕ) → moved ≡ 0 → from ≡ room → 0 < room → nat_lt moved from ≡ true
has-room moved from room none same room-left = lt-ltb moved from (omega (arith, none, same, room-left))

pub ok-not_memory : (r : Result (Option TypedPage) OpFault) → IsOk r → NotMemory r
ok-not_memory (Ok o) ok = tt
ok-not_memory (Err fault) ok = absurd (let clash : false ≡ true = ok in cc)

-- a pass that found no page for the target goes on, where it moved nothing
pub goes-on : (r : Result (Option TypedPage) OpFault) (P : Type 0) → IsOk r → (r ≡ Ok None → ⊥) → ((o : Option TypedPage) (page : TypedPage) → r ≡ Ok o → o ≡ Some page → P) → P
goes-on (Ok None) P ok not-none past = absurd (not-none refl)
goes-on (Ok (Some page)) P ok not-none past = past (Some page) page refl refl
goes-on (Err fault) P ok not-none past = absurd (let clash : false ≡ true = ok in cc)

pub none-is : (r : Result (Option TypedPage) OpFault) → IsOk r → IfOk r (λ o. o ≡ None) → r ≡ Ok None
none-is (Ok o) ok none = ap Ok none
none-is (Err fault) ok none = absurd (let clash : false ≡ true = ok in cc)

pub is-past : (r : Result (Option TypedPage) OpFault) (o : Option TypedPage) (page : TypedPage) (P : Type 0) → r ≡ Ok o → o ≡ Some page → IfOk r (λ o. IfSome o (λ _. P)) → P
is-past r o page P is some h =
    let all : IfSome o (λ _. P) = subst (λ (r : Result (Option TypedPage) OpFault). IfOk r (λ o. IfSome o (λ _. P))) is h in
    let this : P = subst (λ (o : Option TypedPage). IfSome o (λ _. P)) some all in this

module _ {S : Type 0} (g : Ghosts S) where
  pub gave-none : (s t : S) (r : Result (Option TypedPage) OpFault) → r ≡ Ok None → Gave g s t (gave r) → Gave g s t []
  gave-none s t r e h = subst (λ (r : Result (Option TypedPage) OpFault). Gave g s t (gave r)) e h

  -- an operator that held no row when it gave none holds none
  pub gave-none_holds : IsLawful g → NeedsLaws g → (s t : S) → Gave g s t [] → g.holds_row s ≡ false → g.holds_row t ≡ false
  gave-none_holds laws more s t gave empty =
      by_cases (g.holds_row t ≡ false) (g.is_told t)
      (λ told. rest (λ _. told))
      (λ untold. by_cases (g.holds_row t ≡ false) (g.gives_late t) (λ late. more.late t late untold) (λ soon. rest (λ late. absurd (let clash : false ≡ true = sym soon ∙ late in cc))))
    where
      rest : (g.gives_late t ≡ true → g.is_told t ≡ true) → g.holds_row t ≡ false
      rest so =
          let some = laws.some_rows t [] (no-rows-come (g.is_told t)) in
          let before = gave.gives [] some.0 (no-rows-come (g.is_told s)) some.1 in
          let none : some.0 ≡ [] = (laws.holds_rest s some.0 (λ late. sym gave.told ∙ so (gave.same.kept.late ∙ late)) before).0 empty in
          (laws.holds_rest t some.0 so some.1).1 none

  -- nor does it take a page that it did not take before
  pub gave-none_needs : IsLawful g → NeedsLaws g → (s t : S) → Gave g s t [] → g.holds_row s ≡ false → g.needs_input t ≡ true → g.needs_input s ≡ true
  gave-none_needs laws more s t gave empty needs =
      more.needs s (sym gave.told ∙ more.untold t needs) empty
      (λ waits. by_cases (g.knows s ≡ true) (g.knows s) (λ knows. knows)
      (λ unknown. absurd (clash (laws.note.waiting_needs_none t (gave.same.kept.waits ∙ waits) (gave.same.knows ∙ unknown)))))
      (by_cases (g.is_full s ≡ false) (g.is_full s) (λ full. absurd (clash (laws.full.full_needs_none t (gave.same.kept.full full)))) (λ room. room))
    where
      clash : g.needs_input t ≡ false → ⊥
      clash none = let both : false ≡ true = sym none ∙ needs in cc

  -- one that was told to finish takes no page
  told-needs : NeedsLaws g → (s t : S) → WasTold g s t → g.needs_input t ≡ true → g.needs_input s ≡ true
  told-needs more s t told needs = absurd (let clash : false ≡ true = sym (more.untold t needs) ∙ told.told in cc)

  -- a stage changed that takes a page only where it took one, and holds a row only where it held one
  pub Still-set : (ss : List S) (n i : ℕ) (s t : S) → i < length ss → s ≡ get_or ss i s → (g.needs_input t ≡ true → g.needs_input s ≡ true)
      → (i < n → g.holds_row s ≡ false → g.holds_row t ≡ false) → AreStill g n ss → AreStill g n (set ss i t)
  Still-set ss zero i s t h e needs holds still = tt
  Still-set [] (suc n) i s t h e needs holds still = absurd (omega arith)
  Still-set (k ∷ []) (suc n) zero s t h e needs holds still = tt
  Still-set (k ∷ []) (suc n) (suc i) s t h e needs holds still = absurd (omega arith)
  Still-set (k ∷ m ∷ ss) (suc n) zero s t h e needs holds still =
      (λ next. holds (omega arith) (ap g.holds_row e ∙ still.0 next), still.1)
  Still-set (k ∷ m ∷ ss) (suc n) (suc zero) s t h e needs holds still =
      (λ next. still.0 (sym (ap g.needs_input e) ∙ needs next), Still-set (m ∷ ss) n zero s t (omega arith) e needs (λ h. holds (omega (arith, h))) still.1)
  Still-set (k ∷ m ∷ ss) (suc n) (suc (suc i)) s t h e needs holds still =
      (still.0, Still-set (m ∷ ss) n (suc i) s t (omega arith) e needs (λ h. holds (omega (arith, h))) still.1)

  next-still : (ss : List S) (i : ℕ) → ((s t : S) → suc i < length ss → s ≡ get_or ss i s → t ≡ get_or ss (suc i) t → g.needs_input t ≡ true → g.holds_row s ≡ false)
      → AreStill g i ss → AreStill g (suc i) ss
  next-still [] i at still = tt
  next-still (k ∷ []) i at still = tt
  next-still (k ∷ m ∷ ss) zero at still = (λ next. at k m (omega arith) refl refl next, tt)
  next-still (k ∷ m ∷ ss) (suc i) at still = (still.0, next-still (m ∷ ss) i (λ s t h es et. at s t (omega (arith, h)) es et) still.1)

  one-more : (ss : List S) (i : ℕ) → AreStill g (suc i) ss → AreStill g (i + 1) ss
  one-more ss i still = subst (λ (n : ℕ). AreStill g n ss) (sym (add-one i)) still

  -- the next stage takes no page
  pub Still-full : (ss : List S) (i : ℕ) (t : S) → t ≡ get_or ss (i + 1) t → g.needs_input t ≡ false → AreStill g i ss → AreStill g (i + 1) ss
  Still-full ss i t et none still = one-more ss i
      (next-still ss i (λ s m h es em next. absurd (let e : m ≡ t = same-item ss (suc i) m t h em (et ∙ ap (λ j. get_or ss j t) (add-one i)) in
      let clash : false ≡ true = sym none ∙ sym (ap g.needs_input e) ∙ next in cc)) still)

  -- the last stage has no next one
  pub Still-end : (ss : List S) (i : ℕ) → length ss ≤ i + 1 → AreStill g i ss → AreStill g (i + 1) ss
  Still-end ss i over still = one-more ss i (next-still ss i (λ s t h es et next. absurd (omega (arith, h, over))) still)

  -- a stage gave nothing
  pub Still-gave : IsLawful g → NeedsLaws g → (ss : List S) (i : ℕ) (s t : S) → i < length ss → s ≡ get_or ss i s → Gave g s t [] → g.holds_row s ≡ false
      → AreStill g i ss → AreStill g (i + 1) (set ss i t)
  Still-gave laws more ss i s t h e gave empty still =
      let here : t ≡ get_or (set ss i t) i t = get-set ss i t h in
      one-more (set ss i t) i (next-still (set ss i t) i
      (λ k m inside ek em next. ap g.holds_row (same-item (set ss i t) i k t (omega (arith, inside)) ek here) ∙ gave-none_holds laws more s t gave empty)
      (Still-set ss i i s t h e (gave-none_needs laws more s t gave empty) (λ h. absurd (omega (arith, h))) still))

  -- a stage was told to finish
  pub Still-told : NeedsLaws g → (ss : List S) (i : ℕ) (s t : S) → i < length ss → s ≡ get_or ss i s → WasTold g s t → AreStill g i ss → AreStill g i (set ss i t)
  Still-told more ss i s t h e told still = Still-set ss i i s t h e (told-needs more s t told) (λ h. absurd (omega (arith, h))) still

  last-set : (ss : List S) (i : ℕ) (t : S) → suc i ≡ length ss → g.holds_row t ≡ false → last_holds g (set ss i t) ≡ false
  last-set [] i t h none = absurd (omega (arith, h))
  last-set (k ∷ []) zero t h none = none
  last-set (k ∷ []) (suc i) t h none = absurd (omega (arith, h))
  last-set (k ∷ m ∷ ss) zero t h none = absurd (omega (arith, h))
  last-set (k ∷ m ∷ ss) (suc zero) t h none = last-set (m ∷ ss) zero t (omega (arith, h)) none
  last-set (k ∷ m ∷ ss) (suc (suc i)) t h none = last-set (m ∷ ss) (suc i) t (omega (arith, h)) none

  pub Quiet-nil : (ss : List S) (wants : Bool) → length ss ≡ 0 → IsQuiet g wants ss
  Quiet-nil [] wants e = record { stages = tt; last = λ _. refl }
  Quiet-nil (s ∷ ss) wants e = absurd (omega (arith, e))

  -- the last stage gave nothing
  pub Quiet-gave : IsLawful g → NeedsLaws g → (ss : List S) (i : ℕ) (s t : S) → i + 1 ≡ length ss → s ≡ get_or ss i s → Gave g s t [] → g.holds_row s ≡ false
      → AreStill g (length ss) ss → IsQuiet g true (set ss i t)
  Quiet-gave laws more ss i s t h e gave empty still = record {
    stages = subst (λ (n : ℕ). AreStill g n (set ss i t)) (sym (length-set ss i t))
        (Still-set ss (length ss) i s t (omega (arith, h)) e (gave-none_needs laws more s t gave empty) (λ _ _. gave-none_holds laws more s t gave empty) still);
    last = λ _. last-set ss i t (omega (arith, h)) (gave-none_holds laws more s t gave empty);
  }

  -- the target wants no page
  pub Quiet-unwanted : (ss : List S) (wants : Bool) → wants ≡ false → AreStill g (length ss) ss → IsQuiet g wants ss
  Quiet-unwanted ss wants none still = record { stages = still; last = λ wanted. absurd (let clash : false ≡ true = sym none ∙ wanted in cc) }

  pub Quiet-any : (ss : List S) (wants : Bool) → IsQuiet g true ss → IsQuiet g wants ss
  Quiet-any ss wants q = record { stages = q.stages; last = λ _. q.last refl }
