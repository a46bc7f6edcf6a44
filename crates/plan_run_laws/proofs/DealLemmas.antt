-- Rows that are missing are dealt to a driver whose source has not ended.
use Rattle.std.proofs.Common.{◌≡◌, ℕ, ◌<◌, zero, suc, List, [], ◌++◌, Bool, true, false, refl, ap, sym, ◌∙◌, arith, append_assoc, ◌⊎◌, inl, inr}
use Rattle.std.specs.Prelude.{◌==◌, if◌then◌else◌}
use Rattle.std.proofs.lemmas.Bool.{cases_eq, eq-eqb, ne_eqb, true≢false}
use Rattle.sql_values.specs.declared.value.Value.{Value}
use Rattle.bag_laws.specs.Gather.{gather}
use Rattle.bag_laws.specs.Laws.{TaskRows}
use Rattle.bag_laws.specs.Weights.{SameWeights}
use Rattle.bag_laws.proofs.BagLemmas.{same-append, same-from_equal, same-refl, same-sym, same-trans}
use Rattle.bag_laws.proofs.GatherLemmas.{chosen, gather-none, gather-one, same-gather_append}
use Rattle.plan_run_laws.specs.Nets.{Lanes, of_tasks}
use Rattle.plan_run_laws.specs.Stops.{AllSet, Flags, MayCome, TookOf}
use Rattle.plan_run_laws.specs.Wholes.{longer}

-- all have ended, or one has not
abbrev EndedOrOpen : ℕ → (ℕ → Bool) → Type 0
EndedOrOpen w ended = ((d : ℕ) → d < w → ended d ≡ true) ⊎ ((d : ℕ) × (d < w) × (ended d ≡ false))

last_open : (w : ℕ) (ended : ℕ → Bool) (b : Bool) → ended w ≡ b → EndedOrOpen w ended → EndedOrOpen (suc w) ended
last_open w ended false e before = inr (w, omega arith, e)
last_open w ended true e (inr (d, lt, opened)) = inr (d, omega (arith, lt), opened)
last_open w ended true e (inl all) =
    inl (λ d lt. elim (cases_eq d w) as (λ _. ended d ≡ true) [ inl same ↦ ap ended same ∙ e | inr ne ↦ all d (omega (arith, lt, ne)) ])

ended_or_open : (w : ℕ) (ended : ℕ → Bool) → EndedOrOpen w ended
ended_or_open zero ended = inl (λ d lt. absurd (omega (arith, lt)))
ended_or_open (suc w) ended = last_open w ended (ended w) refl (ended_or_open w ended)

-- rows for one driver, or one task, and none for the others
module _ {X : Type 0} where
  abbrev put_at : ℕ → X → X → ℕ → X
  put_at place here other e = if e == place then here else other

  put_at-here : (place : ℕ) (here other : X) → put_at place here other place ≡ here
  put_at-here place here other = ap (λ b. if b then here else other) (eq-eqb place place refl)

  put_at-other : (place : ℕ) (here other : X) (e : ℕ) → ¬ (e ≡ place) → put_at place here other e ≡ other
  put_at-other place here other e ne = ap (λ b. if b then here else other) (ne_eqb e place ne)

gather-put_at : (w d : ℕ) (rows : List (List Value)) → d < w → gather w (put_at d rows []) ≡ rows
gather-put_at w d rows lt =
    gather-one w (put_at d rows []) d lt (λ e less ne. put_at-other d rows [] e ne) ∙ put_at-here d rows []

not_open : (ended : ℕ → Bool) (d e : ℕ) → ended d ≡ false → ended e ≡ true → ¬ (e ≡ d)
not_open ended d e opened is same = true≢false (sym is ∙ ap ended same ∙ opened)

-- the rows that are missing, dealt to the drivers of a task
pub record Dealt (w : ℕ) (ended : ℕ → Bool) (missing : List (List Value)) (more : TaskRows) : Type 0 where
  pub same : SameWeights (gather w more) missing
  pub none : (d : ℕ) → d < w → MayCome (ended d) (more d)

deal_at : (w : ℕ) (ended : ℕ → Bool) (missing : List (List Value)) → (((d : ℕ) → d < w → ended d ≡ true) → missing ≡ []) → EndedOrOpen w ended
    → (more : TaskRows) × Dealt w ended missing more
deal_at w ended missing nothing (inl all) =
    (λ d. [], record { same = same-from_equal (gather-none w (λ d. []) (λ d lt. refl) ∙ sym (nothing all)); none = λ d lt e. refl })
deal_at w ended missing nothing (inr (d, lt, opened)) = (
  put_at d missing [],
  record {
    same = same-from_equal (gather-put_at w d missing lt);
    none = λ e less is. put_at-other d missing [] e (not_open ended d e opened is);
  },
)

pub deal : (w : ℕ) (ended : ℕ → Bool) (missing : List (List Value)) → (((d : ℕ) → d < w → ended d ≡ true) → missing ≡ [])
    → (more : TaskRows) × Dealt w ended missing more
deal w ended missing nothing = deal_at w ended missing nothing (ended_or_open w ended)

-- a task of which a driver has not ended, or none
abbrev AllOrOne : ℕ → ℕ → Flags → Type 0
AllOrOne n w ended = AllSet n w ended ⊎ ((k : ℕ) × (k < n) × ((d : ℕ) × (d < w) × (ended k d ≡ false)))

last_task : (n w : ℕ) (ended : Flags) → EndedOrOpen w (ended n) → AllOrOne n w ended → AllOrOne (suc n) w ended
last_task n w ended (inr opened) before = inr (n, omega arith, opened)
last_task n w ended (inl here) (inr (k, lt, opened)) = inr (k, omega (arith, lt), opened)
last_task n w ended (inl here) (inl all) =
    inl (λ k d lt less. elim (cases_eq k n) as (λ _. ended k d ≡ true)
    [ inl same ↦ ap (λ (j : ℕ). ended j d) same ∙ here d less | inr ne ↦ all k d (omega (arith, lt, ne)) less ])

all_or_one : (n w : ℕ) (ended : Flags) → AllOrOne n w ended
all_or_one zero w ended = inl (λ k d lt less. absurd (omega (arith, lt)))
all_or_one (suc n) w ended = last_task n w ended (ended_or_open w (ended n)) (all_or_one n w ended)

-- the rows that are missing, dealt to the drivers of all tasks
pub record DealtOut (n w : ℕ) (ended : Flags) (missing : List (List Value)) (more : Lanes) : Type 0 where
  pub same : SameWeights (gather n (of_tasks w more)) missing
  pub none : (k d : ℕ) → k < n → d < w → MayCome (ended k d) (more k d)

deal_out_at : (n w : ℕ) (ended : Flags) (missing : List (List Value)) → (AllSet n w ended → missing ≡ []) → AllOrOne n w ended
    → (more : Lanes) × DealtOut n w ended missing more
deal_out_at n w ended missing nothing (inl all) = (
  λ k d. [],
  record {
    same = same-from_equal (gather-none n (of_tasks w (λ k d. [])) (λ k lt. gather-none w (λ d. []) (λ d less. refl)) ∙ sym (nothing all));
    none = λ k d lt less e. refl;
  },
)
deal_out_at n w ended missing nothing (inr (k, lt, (d, less, opened))) =
    let none : TaskRows = λ d. [] in
    let more : Lanes = put_at k (put_at d missing []) none in
    let others : (j : ℕ) → ¬ (j ≡ k) → more j ≡ none = λ j ne. put_at-other k (put_at d missing []) none j ne in (
      more,
      record {
        same = same-from_equal
            (gather-one n (of_tasks w more) k lt (λ j below ne. ap (gather w) (others j ne) ∙ gather-none w none (λ d under. refl))
            ∙ ap (gather w) (put_at-here k (put_at d missing []) none) ∙ gather-put_at w d missing less);
        none = λ j e below under is. elim (cases_eq j k) as (λ _. more j e ≡ []) [
          | inl same ↦ ap (λ (i : ℕ). more i e) same ∙ ap (λ (f : TaskRows). f e) (put_at-here k (put_at d missing []) none)
              ∙ put_at-other d missing [] e (not_open (ended k) d e opened (ap (λ (i : ℕ). ended i e) (sym same) ∙ is))
          | inr ne ↦ ap (λ (f : TaskRows). f e) (others j ne)
        ];
      },
    )

pub deal_out : (n w : ℕ) (ended : Flags) (missing : List (List Value)) → (AllSet n w ended → missing ≡ [])
    → (more : Lanes) × DealtOut n w ended missing more
deal_out n w ended missing nothing = deal_out_at n w ended missing nothing (all_or_one n w ended)

-- what is still put for a task reaches drivers that have not ended
pub record TaskFed (w : ℕ) (took : TaskRows) (ended : ℕ → Bool) (put extra : List (List Value)) (more : TaskRows) : Type 0 where
  pub same : SameWeights (put ++ extra) (gather w (λ d. took d ++ more d))
  pub none : (d : ℕ) → d < w → MayCome (ended d) (more d)

fed_task : (w : ℕ) (took : TaskRows) (ended : ℕ → Bool) (put extra : List (List Value)) (AreDone : Type 0) → TookOf w took ended put AreDone
    → (AreDone → extra ≡ []) → (more : TaskRows) × TaskFed w took ended put extra more
fed_task w took ended put extra AreDone t nothing =
    let d = deal w ended (t.left ++ extra) (λ all. λ i. t.all all i ++ nothing (t.closed all) i) in (
      d.0,
      record {
        same = same-trans (same-append (same-sym t.some) (same-refl extra))
            (same-trans (same-from_equal (append_assoc (gather w took) t.left extra))
            (same-trans (same-append (same-refl (gather w took)) (same-sym d.1.same)) (same-sym (same-gather_append w took d.0))));
        none = d.1.none;
      },
    )

-- of all tasks
pub record Fed (n w : ℕ) (took : Lanes) (ended : Flags) (put extra : TaskRows) : Type 0 where
  pub more : Lanes
  pub same : (k : ℕ) → k < n → SameWeights (put k ++ extra k) (of_tasks w (longer took more) k)
  pub none : (k d : ℕ) → k < n → d < w → MayCome (ended k d) (more k d)

pub fed : (n w : ℕ) (took : Lanes) (ended : Flags) (put extra : TaskRows) (AreDone : ℕ → Type 0)
    → ((k : ℕ) → k < n → TookOf w (took k) (ended k) (put k) (AreDone k)) → ((k : ℕ) → k < n → AreDone k → extra k ≡ []) → Fed n w took ended put extra
fed n w took ended put extra AreDone each nothing =
    let all = chosen (λ k (more : TaskRows). TaskFed w (took k) (ended k) (put k) (extra k) more) (λ d. []) n
    (λ k lt. fed_task w (took k) (ended k) (put k) (extra k) (AreDone k) (each k lt) (nothing k lt)) in
    record { more = all.0; same = λ k lt. (all.1 k lt).same; none = λ k d lt less. (all.1 k lt).none d less }
