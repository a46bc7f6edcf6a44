-- Laws of an operator in two groups, over plain functions: those of a full state, and those of a note and of a count.
use Rattle.std.specs.Prelude.{◌≡◌, ◌↔◌, ℕ, List, [], ◌++◌, Bool, true, false, refl}
use Rattle.sql_values.specs.declared.fail.Fail.{Fail}
use Rattle.operator_core.specs.Rows.{Row, Coming}

-- where it is full it needs no input, and rows that still come change nothing
pub record FullLaws {S : Type 0} (may_give : S → List Row → List Row → Type 0) (may_still_fail : S → List Row → ℕ → Fail → Type 0)
    (is_full needs_input : S → Bool) : Type 0 where
  pub full_needs_none : (s : S) → is_full s ≡ true → needs_input s ≡ false
  pub full_gives : (s : S) (Z B : List Row) → is_full s ≡ true → may_give s Z B ↔ may_give s [] B
  pub full_fails : (s : S) (Z : List Row) (node : ℕ) (kind : Fail) → is_full s ≡ true
      → may_still_fail s Z node kind ↔ may_still_fail s [] node kind

-- an operator that is never full
pub never_full : {S : Type 0} {may_give : S → List Row → List Row → Type 0} {may_still_fail : S → List Row → ℕ → Fail → Type 0}
    {needs_input : S → Bool} → FullLaws may_give may_still_fail (λ _. false) needs_input
never_full = record { full_needs_none = λ s full. cc; full_gives = λ s Z B full. cc; full_fails = λ s Z node kind full. cc }

pub record NoteLaws {S : Type 0} (may_give : S → List Row → List Row → Type 0) (needs_input is_told is_finished waits knows : S → Bool)
    (went : S → List Row → List Row → Type 0) (counted : S → ℕ → Type 0) (as_made : S → S) (may_learn : S → S → Type 0) : Type 0 where
  -- while it waits for what its note does not know it needs no input, and has taken and given nothing
  pub waiting_needs_none : (s : S) → waits s ≡ true → knows s ≡ false → needs_input s ≡ false
  pub waiting_went : (s : S) (T G : List Row) → waits s ≡ true → went s T G → (T ≡ []) × (G ≡ [])
  -- as it was made it knows as much, and had taken, given and counted nothing
  pub made_knows : (s : S) → knows (as_made s) ≡ knows s
  pub made_went : (s : S) → went (as_made s) [] []
  pub made_counted : (s : S) → counted (as_made s) 0
  -- what it may learn is a matter of how it was made
  pub learns_as_made : (s m : S) → may_learn s m ↔ may_learn (as_made s) m
  -- what it may come to be made as knows its value, and is so made
  pub learns_made : (s m : S) → may_learn s m → (knows m ≡ true) × (is_told m ≡ false) × (as_made m ≡ m)
  -- while its note knows nothing it can go on, whatever value the note comes to know
  pub any_note : (s m : S) (T G Z : List Row) → knows s ≡ false → went s T G → may_learn s m → Coming (is_told s) Z
      → (B : List Row) × may_give m (T ++ Z) (G ++ B) × (is_finished s ≡ true → B ≡ [])

-- an operator with no note
pub no_note : {S : Type 0} {may_give : S → List Row → List Row → Type 0} {needs_input is_told is_finished : S → Bool} {as_made : S → S}
    → NoteLaws may_give needs_input is_told is_finished (λ _. false) (λ _. true) (λ _ _ _. Unit {0}) (λ _ _. Unit {0}) as_made (λ _ _. ⊥)
no_note = record {
  waiting_needs_none = λ s waits unknown. cc;
  waiting_went = λ s T G waits went. cc;
  made_knows = λ s. refl;
  made_went = λ s. tt;
  made_counted = λ s. tt;
  learns_as_made = λ s m. ((λ e. e), (λ e. e));
  learns_made = λ s m e. absurd e;
  any_note = λ s m T G Z knows went learns coming. absurd learns;
}
