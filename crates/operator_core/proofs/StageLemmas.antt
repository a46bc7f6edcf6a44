-- One stage: what each call leaves of what it took and gave, and what follows from it.
use Rattle.std.proofs.Common.{◌≡◌, ◌↔◌, inl, inr, ℕ, List, [], ◌++◌, length, length-append, Bool, true, false, refl, sym, subst, ◌∙◌, append_assoc, append-nil}
use Rattle.sql_values.specs.declared.fail.Fail.{Fail}
use Rattle.col_pages.specs.Pages.{TypedPage}
use Rattle.operator_core.specs.declared.operator.Operator.{Ghosts}
use Rattle.operator_core.specs.Rows.{Row, Coming}
use Rattle.operator_core.specs.Calls.{IsLawful, Took, Gave, WasTold, Looked, FailsNow}
use Rattle.operator_core.specs.Stages.{Steps, MadeOf, NothingFails}

-- no row is always one that may come
pub Coming-none : (told : Bool) → Coming told []
Coming-none true = refl
Coming-none false = tt

pub Coming-told : (told : Bool) (Z : List Row) → told ≡ true → Coming told Z → Z ≡ []
Coming-told true Z e coming = coming
Coming-told false Z e coming = cc

pub Coming-untold : (told : Bool) (Z : List Row) → told ≡ false → Coming told Z
Coming-untold true Z e = cc
Coming-untold false Z e = tt

-- a stage that was told to finish only where its giver has finished gets no more than that giver still gives
pub Coming-weaker : (strong weak : Bool) (Z : List Row) → (weak ≡ true → strong ≡ true) → Coming strong Z → Coming weak Z
Coming-weaker strong true Z so coming = Coming-told strong Z (so refl) coming
Coming-weaker strong false Z so coming = tt

iff-trans : {A B C : Type 0} → A ↔ B → B ↔ C → A ↔ C
iff-trans f h = ((λ a. h.0 (f.0 a)), (λ c. f.1 (h.1 c)))

module _ {S : Type 0} (g : Ghosts S) where
  -- as it was made, it took and gave nothing
  pub Steps-made : IsLawful g → (s : S) → g.as_made s ≡ s → Steps g s [] []
  Steps-made laws s e = record {
    gives = λ Z B coming gives. subst (λ (m : S). g.may_give m Z B) (sym e) gives;
    fails = λ Z node kind coming. subst (λ (m : S). g.may_still_fail s Z node kind ↔ g.may_still_fail m Z node kind) (sym e) ((λ f. f), (λ f. f));
    idle = λ knows. subst (λ (m : S). g.went m [] []) e (laws.note.made_went s);
    counted = subst (λ (m : S). g.counted m 0) e (laws.note.made_counted s);
  }

  pub Steps-took : (old new : S) (X Y : List Row) (page : TypedPage) → Took g old new page → Steps g old X Y → Steps g new (X ++ page.rows) Y
  Steps-took old new X Y page t s = record {
    gives = λ Z B coming gives. rw (t.same.as_made, append_assoc X page.rows Z) (s.gives (page.rows ++ Z) B (Coming-untold _ _ t.untold) (t.gives Z B gives));
    fails = λ Z node kind coming. rw (t.same.as_made, append_assoc X page.rows Z) (iff-trans (t.fails Z node kind) (s.fails (page.rows ++ Z) node kind (Coming-untold _ _ t.untold)));
    idle = λ knows. let k = sym t.same.knows ∙ knows in t.went k X Y (s.idle k);
    counted = t.counted (length Y) s.counted;
  }

  pub Steps-gave : (old new : S) (X Y P : List Row) → Gave g old new P → Steps g old X Y → Steps g new X (Y ++ P)
  Steps-gave old new X Y P t s = record {
    gives = λ Z B coming gives. let c = subst (λ b. Coming b Z) t.told coming in
        rw (t.same.as_made, append_assoc Y P B) (s.gives Z (P ++ B) c (t.gives Z B c gives));
    fails = λ Z node kind coming. let c = subst (λ b. Coming b Z) t.told coming in
        rw t.same.as_made (iff-trans (t.fails Z node kind c) (s.fails Z node kind c));
    idle = λ knows. let k = sym t.same.knows ∙ knows in t.went k X Y (s.idle k);
    counted = subst (λ n. g.counted new n) (sym (length-append Y P)) (t.counted (length Y) s.counted);
  }

  pub Steps-gave_none : (old new : S) (X Y : List Row) → Gave g old new [] → Steps g old X Y → Steps g new X Y
  Steps-gave_none old new X Y t s = subst (λ (y : List Row). Steps g new X y) (append-nil Y) (Steps-gave old new X Y [] t s)

  pub Steps-told : (old new : S) (X Y : List Row) → WasTold g old new → Steps g old X Y → Steps g new X Y
  Steps-told old new X Y t s = record {
    gives = λ Z B coming gives. let z = Coming-told _ Z t.told coming in
        subst (λ (z : List Row). g.may_give (g.as_made new) (X ++ z) (Y ++ B)) (sym z)
        (rw t.same.as_made (s.gives [] B (Coming-none _) (t.gives B (subst (λ (z : List Row). g.may_give new z B) z gives))));
    fails = λ Z node kind coming. let z = Coming-told _ Z t.told coming in
        subst (λ (z : List Row). g.may_still_fail new z node kind ↔ g.may_still_fail (g.as_made new) (X ++ z) node kind) (sym z)
        (rw t.same.as_made (iff-trans (t.fails node kind) (s.fails [] node kind (Coming-none _))));
    idle = λ knows. let k = sym t.same.knows ∙ knows in t.went k X Y (s.idle k);
    counted = t.counted (length Y) s.counted;
  }

  looked-same : (old new : S) (X Y : List Row) → Looked g old new → g.knows new ≡ g.knows old → Steps g old X Y → Steps g new X Y
  looked-same old new X Y t e s = record {
    gives = λ Z B coming gives. let c = subst (λ b. Coming b Z) t.told coming in
        rw (t.same e) (s.gives Z B c (t.gives Z B c gives));
    fails = λ Z node kind coming. let c = subst (λ b. Coming b Z) t.told coming in
        rw (t.same e) (iff-trans (t.fails Z node kind c) (s.fails Z node kind c));
    idle = λ knows. t.went knows X Y (s.idle (sym e ∙ knows));
    counted = t.counted (length Y) s.counted;
  }

  looked-learns : (old new : S) (X Y : List Row) → Looked g old new → g.knows old ≡ false → g.knows new ≡ true → Steps g old X Y → Steps g new X Y
  looked-learns old new X Y t before after s = record {
    gives = λ Z B coming gives. t.learns_gives before after X Y (s.idle before) Z B (subst (λ b. Coming b Z) t.told coming) gives;
    fails = λ Z node kind coming. t.learns_fails before after X Y (s.idle before) Z node kind (subst (λ b. Coming b Z) t.told coming);
    idle = λ knows. cc;
    counted = t.counted (length Y) s.counted;
  }

  looked-at : (old new : S) (X Y : List Row) → Looked g old new → Steps g old X Y → (before after : Bool) → g.knows old ≡ before → g.knows new ≡ after → Steps g new X Y
  looked-at old new X Y t s true after b a = looked-same old new X Y t (t.known b ∙ sym b) s
  looked-at old new X Y t s false true b a = looked-learns old new X Y t b a s
  looked-at old new X Y t s false false b a = looked-same old new X Y t (a ∙ sym b) s

  pub Steps-looked : (old new : S) (X Y : List Row) → Looked g old new → Steps g old X Y → Steps g new X Y
  Steps-looked old new X Y t s = looked-at old new X Y t s (g.knows old) (g.knows new) refl refl

  -- a finished operator was told to finish, gives nothing more, and fails on nothing
  pub finished-told : IsLawful g → (s : S) → g.is_finished s ≡ true → g.is_told s ≡ true
  finished-told laws s e = ((laws.finished s).0 e).0

  pub finished-gives : IsLawful g → (s : S) (B : List Row) → g.is_finished s ≡ true → g.may_give s [] B → B ≡ []
  finished-gives laws s B e gives = let f = (laws.finished s).0 e in (laws.holds_rest s B (λ _. f.0) gives).0 f.1

  pub finished-gives_none : IsLawful g → (s : S) → g.is_finished s ≡ true → g.may_give s [] []
  finished-gives_none laws s e =
      let some = laws.some_rows s [] (Coming-none _) in
      subst (λ (B : List Row). g.may_give s [] B) (finished-gives laws s some.0 e some.1) some.1

  pub finished-fails : IsLawful g → (s : S) → g.is_finished s ≡ true → NothingFails g s []
  finished-fails laws s e = ((laws.finished s).0 e).2

  -- a finished stage gave what it, as it was made, may give, and nothing failed
  pub Steps-finished : IsLawful g → (s : S) (X Y : List Row) → g.is_finished s ≡ true → Steps g s X Y → g.may_give (g.as_made s) X Y × NothingFails g (g.as_made s) X
  Steps-finished laws s X Y e steps = (
    subst (λ (y : List Row). g.may_give (g.as_made s) X y) (append-nil Y)
        (subst (λ (x : List Row). g.may_give (g.as_made s) x (Y ++ [])) (append-nil X) (steps.gives [] [] (Coming-none _) (finished-gives_none laws s e))),
    λ node kind f. finished-fails laws s e node kind ((steps.fails [] node kind (Coming-none _)).1 (subst (λ (x : List Row). g.may_still_fail (g.as_made s) x node kind) (sym (append-nil X)) f)),
  )

  -- a stage can go on with any rows, so made as its note comes to know
  pub Steps-goes_on : IsLawful g → (s m : S) (X Y Z : List Row) → Steps g s X Y → MadeOf g s m → Coming (g.is_told s) Z
      → (B : List Row) × g.may_give m (X ++ Z) (Y ++ B) × (g.is_finished s ≡ true → B ≡ [])
  Steps-goes_on laws s m X Y Z steps (inl e) coming =
      let some = laws.some_rows s Z coming in (
        some.0,
        subst (λ (k : S). g.may_give k (X ++ Z) (Y ++ some.0)) (sym e) (steps.gives Z some.0 coming some.1),
        λ over. finished-gives laws s some.0 over (subst (λ (z : List Row). g.may_give s z some.0) (Coming-told _ Z (finished-told laws s over) coming) some.1),
      )
  Steps-goes_on laws s m X Y Z steps (inr l) coming = laws.note.any_note s m X Y Z l.0 (steps.idle l.0) l.1 coming

  -- a failure that comes whatever follows is one of what came so far
  pub Steps-fails : (s : S) (X Y : List Row) (node : ℕ) (kind : Fail) → Steps g s X Y → FailsNow g s node kind
      → (Z : List Row) → Coming (g.is_told s) Z → g.may_still_fail (g.as_made s) (X ++ Z) node kind
  Steps-fails s X Y node kind steps fails Z coming = (steps.fails Z node kind coming).0 (fails Z coming)
