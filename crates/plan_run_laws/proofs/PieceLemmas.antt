-- Rows cut into pieces, task by task, are cut into the pieces of all drivers.
use Rattle.std.proofs.Common.{◌≡◌, ℕ, ◌+◌, ◌-◌, ◌<◌, ◌≤◌, zero, suc, List, [], ◌++◌, ap, sym, ◌∙◌, arith, subst, ◌⊎◌, inl, inr}
use Rattle.std.specs.Prelude.{ltb, if◌then◌else◌}
use Rattle.std.proofs.lemmas.Bool.{cases_lt, lt-ltb, le-ltb}
use Rattle.sql_values.specs.declared.value.Value.{Value}
use Rattle.bag_laws.specs.Gather.{gather}
use Rattle.bag_laws.specs.Laws.{TaskRows}
use Rattle.bag_laws.proofs.BagLemmas.{same-append, same-from_equal, same-refl, same-trans}
use Rattle.bag_laws.proofs.GatherLemmas.{gather-add, gather-agree}
use Rattle.plan_run_laws.specs.Runs.{AllInPieces, InPieces}

-- the first `a` of one numbering, then those of another
abbrev joined : ℕ → TaskRows → TaskRows → TaskRows
joined a f g d = if ltb d a then f d else g (d - a)

joined_first : (a : ℕ) (f g : TaskRows) (d : ℕ) → d < a → joined a f g d ≡ f d
joined_first a f g d lt = ap (λ b. if b then f d else g (d - a)) (lt-ltb d a lt)

joined_last : (a : ℕ) (f g : TaskRows) (d : ℕ) → a ≤ d → joined a f g d ≡ g (d - a)
joined_last a f g d le = ap (λ b. if b then f d else g (d - a)) (le-ltb d a le)

gather-joined : (a b : ℕ) (f g : TaskRows) → gather (a + b) (joined a f g) ≡ gather a f ++ gather b g
gather-joined a b f g =
    let behind : (j : ℕ) → j < b → joined a f g (a + j) ≡ g j
    = λ j lt. joined_last a f g (a + j) (omega arith) ∙ ap g (omega arith) in
    gather-add a b (joined a f g)
    ∙ (λ i. gather-agree a (joined a f g) f (λ d lt. joined_first a f g d lt) i ++ gather-agree b (λ j. joined a f g (a + j)) g behind i)

module _ (Gave : List (List Value) → List (List Value) → Type 0) where
  each_joined : (a b : ℕ) (f g p q : TaskRows) → ((d : ℕ) → d < a → Gave (f d) (p d)) → ((d : ℕ) → d < b → Gave (g d) (q d))
      → (d : ℕ) → d < a + b → (d < a) ⊎ (a ≤ d) → Gave (joined a f g d) (joined a p q d)
  each_joined a b f g p q first last d lt (inl below) =
      subst (λ rows. Gave rows (joined a p q d)) (sym (joined_first a f g d below))
      (subst (Gave (f d)) (sym (joined_first a p q d below)) (first d below))
  each_joined a b f g p q first last d lt (inr above) =
      subst (λ rows. Gave rows (joined a p q d)) (sym (joined_last a f g d above))
      (subst (Gave (g (d - a))) (sym (joined_last a p q d above)) (last (d - a) (omega arith)))

  pieces-append : {A B C D : List (List Value)} → InPieces Gave A B → InPieces Gave C D → InPieces Gave (A ++ C) (B ++ D)
  pieces-append v w = record {
    drivers = v.drivers + w.drivers;
    pieces = joined v.drivers v.pieces w.pieces;
    gave = joined v.drivers v.gave w.gave;
    cut = same-trans (same-from_equal (gather-joined v.drivers w.drivers v.pieces w.pieces)) (same-append v.cut w.cut);
    each = λ d lt. each_joined v.drivers w.drivers v.pieces w.pieces v.gave w.gave v.each w.each d lt (cases_lt d v.drivers);
    together = same-trans (same-from_equal (gather-joined v.drivers w.drivers v.gave w.gave)) (same-append v.together w.together);
  }

  pub pieces-gather : (m : ℕ) (ins parts : TaskRows) → AllInPieces Gave m ins parts → InPieces Gave (gather m ins) (gather m parts)
  pieces-gather zero ins parts each = record {
    drivers = 0;
    pieces = λ d. [];
    gave = λ d. [];
    cut = same-refl [];
    each = λ d lt. absurd (omega (arith, lt));
    together = same-refl [];
  }
  pieces-gather (suc m) ins parts each =
      pieces-append (pieces-gather m ins parts (λ j lt. each j (omega arith))) (each m (omega arith))
