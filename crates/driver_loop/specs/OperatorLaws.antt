-- The laws of a stage, from those of its operator.
use Rattle.std.specs.Prelude.{◌≡◌, ◌↔◌, ℕ, List, [], ◌++◌, Bool, true, false, refl}
use Rattle.std.proofs.Common.{ap, sym, subst, ◌∙◌}
use Rattle.sql_values.specs.declared.fail.Fail.{Fail}
use Rattle.operator_core.specs.declared.operator.Operator.{Ghosts}
use Rattle.operator_core.specs.declared.late.Kernel.{Ghosts as KernelGhosts}
use Rattle.operator_core.specs.LateGhosts.{late}
use Rattle.operator_core.specs.LateLaws.{late-finished, told-holds}
use Rattle.operator_core.specs.LawGroups.{FullLaws, NoteLaws, never_full, no_note}
use Rattle.operator_core.specs.NoteLaws.{none-without, told-needs, told-needs_none}
use Rattle.operator_core.specs.Rows.{Row, Coming}

-- the laws of an operator, as the trait has them
abbrev pub Laws : {S : Type 0} → Ghosts S → Type 0
Laws {S = S} g = record {
  some_rows : (s : S) (X : List Row) → Coming (g.is_told s) X → (B : List Row) × g.may_give s X B;
  holds_rest : (s : S) (B : List Row) → (g.gives_late s ≡ true → g.is_told s ≡ true) → g.may_give s [] B → (g.holds_row s ≡ false) ↔ (B ≡ []);
  late_holds_none : (s : S) → g.gives_late s ≡ true → g.is_told s ≡ false → g.holds_row s ≡ false;
  finished : (s : S) → (g.is_finished s ≡ true) ↔ ((g.is_told s ≡ true) × (g.holds_row s ≡ false)
      × ((node : ℕ) (kind : Fail) → g.may_still_fail s [] node kind → ⊥));
  needs_untold : (s : S) → g.needs_input s ≡ true → g.is_told s ≡ false;
  full : FullLaws g.may_give g.may_still_fail g.is_full g.needs_input;
  needs : (s : S) → g.is_told s ≡ false → g.holds_row s ≡ false → (g.waits s ≡ true → g.knows s ≡ true) → g.is_full s ≡ false → g.needs_input s ≡ true;
  made_untold : (s : S) → g.is_told (g.as_made s) ≡ false;
  made_again : (s : S) → g.as_made (g.as_made s) ≡ g.as_made s;
  note : NoteLaws g.may_give g.needs_input g.is_told g.is_finished g.waits g.knows g.went g.counted g.as_made g.may_learn;
}

-- the laws of a kernel, and of the operator that gives late by it
abbrev pub KernelLaws : {K : Type 0} → KernelGhosts K → Type 0
KernelLaws {K = K} k = record {
  some_rows : (s : K) (X : List Row) → (B : List Row) × k.may_give s X B;
  holds_rest : (s : K) (B : List Row) → k.may_give s [] B → (k.holds_row s ≡ false) ↔ (B ≡ []);
  done : (s : K) → (k.is_done s ≡ true) ↔ ((k.holds_row s ≡ false) × ((node : ℕ) (kind : Fail) → k.may_fail s [] node kind → ⊥));
  made_again : (s : K) → k.as_made (k.as_made s) ≡ k.as_made s;
}

pub late_laws : {K : Type 0} (k : KernelGhosts K) → KernelLaws k → Laws (late k)
late_laws {K = K} k laws = record {
  some_rows = λ s X coming. laws.some_rows s.kernel X;
  holds_rest = λ s B told g. told-holds s.is_told (k.holds_row s.kernel) (told refl) (laws.holds_rest s.kernel B g);
  late_holds_none = λ s late told. none-without s.is_told (k.holds_row s.kernel) told;
  finished = λ s. late-finished s.is_told (laws.done s.kernel);
  needs_untold = λ s. told-needs_none s.is_told;
  full = never_full;
  needs = λ s told _ _ _. told-needs s.is_told told;
  made_untold = λ s. refl;
  made_again = λ s. ap (λ (t : K). record { kernel = t; is_told = false }) (laws.made_again s.kernel);
  note = no_note;
}

-- what the ghosts are at one state, and as it was made
pub record Now : Type 1 where
  pub gives : List Row → List Row → Type 0
  pub fails : List Row → ℕ → Fail → Type 0
  pub late : Bool
  pub needs : Bool
  pub holds : Bool
  pub full : Bool
  pub told : Bool
  pub over : Bool
  pub waits : Bool
  pub knows : Bool
  pub went : List Row → List Row → Type 0
  pub made_told : Bool
  pub made_knows : Bool
  pub made_went : List Row → List Row → Type 0
  pub made_counted : ℕ → Type 0

abbrev pub now : {S : Type 0} → Ghosts S → S → Now
now g s = record {
  gives = g.may_give s;
  fails = g.may_still_fail s;
  late = g.gives_late s;
  needs = g.needs_input s;
  holds = g.holds_row s;
  full = g.is_full s;
  told = g.is_told s;
  over = g.is_finished s;
  waits = g.waits s;
  knows = g.knows s;
  went = g.went s;
  made_told = g.is_told (g.as_made s);
  made_knows = g.knows (g.as_made s);
  made_went = g.went (g.as_made s);
  made_counted = g.counted (g.as_made s);
}

-- the laws of one state
pub record LawsNow (n : Now) : Type 0 where
  pub some_rows : (X : List Row) → Coming n.told X → (B : List Row) × n.gives X B
  pub holds_rest : (B : List Row) → (n.late ≡ true → n.told ≡ true) → n.gives [] B → (n.holds ≡ false) ↔ (B ≡ [])
  pub late_holds_none : n.late ≡ true → n.told ≡ false → n.holds ≡ false
  pub finished : (n.over ≡ true) ↔ ((n.told ≡ true) × (n.holds ≡ false) × ((node : ℕ) (kind : Fail) → n.fails [] node kind → ⊥))
  pub needs_untold : n.needs ≡ true → n.told ≡ false
  pub needs : n.told ≡ false → n.holds ≡ false → (n.waits ≡ true → n.knows ≡ true) → n.full ≡ false → n.needs ≡ true
  pub waiting_needs_none : n.waits ≡ true → n.knows ≡ false → n.needs ≡ false
  pub waiting_went : (T G : List Row) → n.waits ≡ true → n.went T G → (T ≡ []) × (G ≡ [])
  pub made_untold : n.made_told ≡ false
  pub made_knows : n.made_knows ≡ n.knows
  pub made_went : n.made_went [] []
  pub made_counted : n.made_counted 0

pub laws_now : {S : Type 0} (g : Ghosts S) → Laws g → (s : S) → LawsNow (now g s)
laws_now g laws s = record {
  some_rows = laws.some_rows s;
  holds_rest = laws.holds_rest s;
  late_holds_none = laws.late_holds_none s;
  finished = laws.finished s;
  needs_untold = laws.needs_untold s;
  needs = laws.needs s;
  waiting_needs_none = laws.note.waiting_needs_none s;
  waiting_went = laws.note.waiting_went s;
  made_untold = laws.made_untold s;
  made_knows = laws.note.made_knows s;
  made_went = laws.note.made_went s;
  made_counted = laws.note.made_counted s;
}

-- the stage is one with what the operator may come to be made as
abbrev pub LearnsAs : {E S : Type 0} → Ghosts S → (S → E) → S → E → Type 0
LearnsAs {S = S} g stage op m = (to : S) × (m ≡ stage to) × g.may_learn op to

-- the laws of what a stage may learn, of what its ghosts are
pub record LearnLaws {E : Type 0} (g : Ghosts E) (n : Now) (again once : E) (learns made_learns : E → Type 0) : Type 0 where
  pub made_again : again ≡ once
  pub learns_as_made : (m : E) → learns m ↔ made_learns m
  pub learns_made : (m : E) → learns m → (g.knows m ≡ true) × (g.is_told m ≡ false) × (g.as_made m ≡ m)
  pub any_note : (m : E) (T G Z : List Row) → n.knows ≡ false → n.went T G → learns m → Coming n.told Z
      → (B : List Row) × g.may_give m (T ++ Z) (G ++ B) × (n.over ≡ true → B ≡ [])

-- they are those of its operator, which in a stage has the same ghosts, and is made likewise
pub learn_laws : {E S : Type 0} (e : Ghosts E) (g : Ghosts S) → Laws g → (stage : S → E) → ((s : S) → now e (stage s) ≡ now g s)
    → ((s : S) → e.as_made (stage s) ≡ stage (g.as_made s)) → (s : S)
    → LearnLaws e (now g s) (stage (g.as_made (g.as_made s))) (stage (g.as_made s)) (LearnsAs g stage s) (LearnsAs g stage (g.as_made s))
learn_laws e g laws stage same made s = record {
  made_again = ap stage (laws.made_again s);
  learns_as_made = λ m. (
    (λ l. (l.0, l.1, (laws.note.learns_as_made s l.0).0 l.2)),
    (λ l. (l.0, l.1, (laws.note.learns_as_made s l.0).1 l.2)),
  );
  learns_made = λ m l.
      let learned = laws.note.learns_made s l.0 l.2 in
      Prim.rw l.1 (ap (λ (n : Now). n.knows) (same l.0) ∙ learned.0, ap (λ (n : Now). n.told) (same l.0) ∙ learned.1, made l.0 ∙ ap stage learned.2);
  any_note = λ m T G Z unknown went l coming.
      let any = laws.note.any_note s l.0 T G Z unknown went l.2 coming in
      (any.0, Prim.rw l.1 (subst (λ (n : Now). n.gives (T ++ Z) (G ++ any.0)) (sym (same l.0)) any.1), any.2);
}
