-- The first of filters that are done, and the last one.
use Rattle.std.proofs.Common.{◌≡◌, ℕ, zero, suc, List, [], ◌∷◌, Bool, true, arith, drop, get_or, length, take, refl, subst, sym}
use Rattle.operator_core.specs.declared.operator.Operator.{Ghosts}
use Rattle.operator_core.specs.Rows.{Row}
use Rattle.operator_core.specs.Calls.{IsLawful}
use Rattle.operator_core.specs.Stages.{Linked, Steps, ToldInTurn, last_finished}
use Rattle.operator_core.proofs.StageLemmas.{finished-told}
use Rattle.net_laws.specs.ScanFilters.{ScanFilter}
use Rattle.net_laws.specs.FilterStages.{AreOperatorsOf, HaveFiltered}

module _ {S : Type 0} (g : Ghosts S) (laws : IsLawful g) where
  -- the source of operators of which the last is finished has ended
  pub source_ended : (stages : List S) (over : Bool) → ToldInTurn g over stages → last_finished g over stages ≡ true → over ≡ true
  source_ended [] over turns finished = finished
  source_ended (s ∷ stages) over turns finished = turns.0 (finished-told g laws s (source_ended stages (g.is_finished s) turns.1 finished))

  -- what the first of them did, and what the others took
  abbrev FirstOf : ℕ → List ScanFilter → List S → Bool → List Row → List Row → Type 0
  FirstOf count filters stages over came gave =
      (some : List Row) × HaveFiltered g (take count filters) (take count stages) came some over × Linked g (drop count stages) some gave

  first_of : (count : ℕ) (filters : List ScanFilter) (stages : List S) → AreOperatorsOf g filters stages → (over : Bool) → ToldInTurn g over stages
      → (came gave : List Row) → Linked g stages came gave → last_finished g over stages ≡ true → FirstOf count filters stages over came gave
  first_of zero filters stages are over turns came gave linked finished =
      (came, record { are = tt; turns = tt; linked = refl; finished = source_ended stages over turns finished }, linked)
  first_of (suc count) [] [] are over turns came gave linked finished =
      (gave, record { are = tt; turns = tt; linked = linked; finished = finished }, refl)
  first_of (suc count) [] (s ∷ stages) are over turns came gave linked finished = absurd are
  first_of (suc count) (f ∷ filters) [] are over turns came gave linked finished = absurd are
  first_of (suc count) (f ∷ filters) (s ∷ stages) are over turns came gave (M, steps, linked) finished =
      let rest = first_of count filters stages are.1 (g.is_finished s) turns.1 M gave linked finished in
      let have = rest.1 in (
        rest.0,
        record { are = (are.0, have.are); turns = (turns.0, have.turns); linked = (M, steps, have.linked); finished = have.finished },
        rest.2,
      )

  pub first_filters : (filters : List ScanFilter) (stages : List S) (came gave : List Row) (over : Bool) → HaveFiltered g filters stages came gave over
      → (count : ℕ) → FirstOf count filters stages over came gave
  first_filters filters stages came gave over have count = first_of count filters stages have.are over have.turns came gave have.linked have.finished

module _ {S : Type 0} (g : Ghosts S) where
  -- what the last of operators took
  last_steps : (stages : List S) (X Y : List Row) → Linked g stages X Y → (place : ℕ) (s : S) → suc place ≡ length stages → s ≡ get_or stages place s → (took : List Row) × Steps g s took Y
  last_steps [] X Y linked place s last is = absurd (omega (arith, last))
  last_steps (t ∷ []) X Y (M, steps, same) zero s last is = (X, subst (λ (rows : List Row). Steps g s X rows) same (subst (λ (u : S). Steps g u X M) (sym is) steps))
  last_steps (t ∷ []) X Y linked (suc place) s last is = absurd (omega (arith, last))
  last_steps (t ∷ u ∷ stages) X Y linked zero s last is = absurd (omega (arith, last))
  last_steps (t ∷ u ∷ stages) X Y (M, steps, linked) (suc place) s last is = last_steps (u ∷ stages) M Y linked place s (omega (arith, last)) is

  pub last_filter : (filters : List ScanFilter) (stages : List S) (came gave : List Row) (over : Bool) → HaveFiltered g filters stages came gave over
      → (place : ℕ) (s : S) → suc place ≡ length stages → s ≡ get_or stages place s → (took : List Row) × Steps g s took gave
  last_filter filters stages came gave over have place s last is = last_steps stages came gave have.linked place s last is
