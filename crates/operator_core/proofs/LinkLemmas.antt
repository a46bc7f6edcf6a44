-- A list of stages: what a move leaves of what they took and gave.
use Rattle.std.proofs.Common.{◌≡◌, ℕ, zero, suc, ◌+◌, ◌<◌, List, [], ◌∷◌, ◌++◌, length, get_or, set, take, drop, map, refl, sym, ap, subst, ◌∙◌, arith, add-one}
use Rattle.operator_core.specs.declared.operator.Operator.{Ghosts}
use Rattle.operator_core.specs.Rows.{Row}
use Rattle.operator_core.specs.Calls.{IsLawful}
use Rattle.operator_core.specs.Stages.{Steps, Linked}
use Rattle.operator_core.proofs.StageLemmas.{Steps-made}

module _ {S : Type 0} (g : Ghosts S) where
  -- one stage changes and neither takes nor gives
  pub Linked-set : (ss : List S) (i : ℕ) (s t : S) (X Y : List Row) → i < length ss → s ≡ get_or ss i s
      → ((A B : List Row) → Steps g s A B → Steps g t A B) → Linked g ss X Y → Linked g (set ss i t) X Y
  Linked-set [] i s t X Y h e step l = absurd (omega arith)
  Linked-set (k ∷ ss) zero s t X Y h e step l = (l.0, step X l.0 (subst (λ (k : S). Steps g k X l.0) (sym e) l.1), l.2)
  Linked-set (k ∷ ss) (suc i) s t X Y h e step l = (l.0, l.1, Linked-set ss i s t l.0 Y (omega arith) e step l.2)

  moved : (ss : List S) (i : ℕ) (s t s' t' : S) (P X Y : List Row) → suc i < length ss → s ≡ get_or ss i s → t ≡ get_or ss (suc i) t
      → ((A B : List Row) → Steps g s A B → Steps g s' A (B ++ P)) → ((A B : List Row) → Steps g t A B → Steps g t' (A ++ P) B)
      → Linked g ss X Y → Linked g (set (set ss i s') (suc i) t') X Y
  moved [] i s t s' t' P X Y h es et gives takes l = absurd (omega arith)
  moved (k ∷ []) i s t s' t' P X Y h es et gives takes l = absurd (omega arith)
  moved (k ∷ m ∷ ss) zero s t s' t' P X Y h es et gives takes l = (
    l.0 ++ P,
    gives X l.0 (subst (λ (k : S). Steps g k X l.0) (sym es) l.1),
    (l.2.0, takes l.0 l.2.0 (subst (λ (k : S). Steps g k l.0 l.2.0) (sym et) l.2.1), l.2.2),
  )
  moved (k ∷ m ∷ ss) (suc i) s t s' t' P X Y h es et gives takes l = (l.0, l.1, moved (m ∷ ss) i s t s' t' P l.0 Y (omega arith) es et gives takes l.2)

  -- a page went from the stage at i to the one at j, the next
  pub Linked-moved : (ss : List S) (i j : ℕ) (s t s' t' : S) (P X Y : List Row) → j ≡ i + 1 → j < length ss → s ≡ get_or ss i s → t ≡ get_or ss j t
      → ((A B : List Row) → Steps g s A B → Steps g s' A (B ++ P)) → ((A B : List Row) → Steps g t A B → Steps g t' (A ++ P) B)
      → Linked g ss X Y → Linked g (set (set ss i s') j t') X Y
  Linked-moved ss i j s t s' t' P X Y next h es et gives takes l =
      let e : j ≡ suc i = next ∙ add-one i in
      subst (λ (j : ℕ). Linked g (set (set ss i s') j t') X Y) (sym e)
      (moved ss i s t s' t' P X Y (omega arith) es (subst (λ (j : ℕ). t ≡ get_or ss j t) e et) gives takes l)

  -- the first stage took a page of the source
  pub Linked-front : (ss : List S) (s t : S) (P X Y : List Row) → 0 < length ss → s ≡ get_or ss 0 s
      → ((A B : List Row) → Steps g s A B → Steps g t (A ++ P) B) → Linked g ss X Y → Linked g (set ss 0 t) (X ++ P) Y
  Linked-front [] s t P X Y h e takes l = absurd (omega arith)
  Linked-front (k ∷ ss) s t P X Y h e takes l = (l.0, takes X l.0 (subst (λ (k : S). Steps g k X l.0) (sym e) l.1), l.2)

  -- the last stage gave a page to the target
  pub Linked-last : (ss : List S) (i : ℕ) (s t : S) (P X Y : List Row) → i + 1 ≡ length ss → s ≡ get_or ss i s
      → ((A B : List Row) → Steps g s A B → Steps g t A (B ++ P)) → Linked g ss X Y → Linked g (set ss i t) X (Y ++ P)
  Linked-last [] i s t P X Y h e gives l = absurd (omega arith)
  Linked-last (k ∷ []) zero s t P X Y h e gives l = (l.0 ++ P, gives X l.0 (subst (λ (k : S). Steps g k X l.0) (sym e) l.1), ap (λ y. y ++ P) l.2)
  Linked-last (k ∷ []) (suc i) s t P X Y h e gives l = absurd (omega arith)
  Linked-last (k ∷ m ∷ ss) zero s t P X Y h e gives l = absurd (omega arith)
  Linked-last (k ∷ m ∷ ss) (suc i) s t P X Y h e gives l = (l.0, l.1, Linked-last (m ∷ ss) i s t P l.0 Y (omega arith) e gives l.2)

  -- stages as they were made took and gave nothing
  pub Linked-made : IsLawful g → (ss : List S) → map g.as_made ss ≡ ss → Linked g ss [] []
  Linked-made laws [] e = refl
  Linked-made laws (s ∷ ss) e = ([], Steps-made g laws s (cc), Linked-made laws ss (cc))

  -- the stage at a place, and what it took and gave
  pub Linked-at : (ss : List S) (i : ℕ) (s : S) (X Y : List Row) → i < length ss → s ≡ get_or ss i s → Linked g ss X Y
      → (M : List Row) × (N : List Row) × Linked g (take i ss) X M × Steps g s M N × Linked g (drop (suc i) ss) N Y
  Linked-at [] i s X Y h e l = absurd (omega arith)
  Linked-at (k ∷ ss) zero s X Y h e l = (X, l.0, refl, subst (λ (k : S). Steps g k X l.0) (sym e) l.1, l.2)
  Linked-at (k ∷ ss) (suc i) s X Y h e l =
      let r = Linked-at ss i s l.0 Y (omega arith) e l.2 in (r.0, r.1, (l.0, l.1, r.2), r.3, r.4)

  -- a stage that changes was made as before
  pub map-set_made : (ss : List S) (i : ℕ) (s t : S) → i < length ss → s ≡ get_or ss i s → g.as_made t ≡ g.as_made s → map g.as_made (set ss i t) ≡ map g.as_made ss
  map-set_made [] i s t h e m = absurd (omega arith)
  map-set_made (k ∷ ss) zero s t h e m = ap (λ x. x ∷ map g.as_made ss) (m ∙ ap g.as_made e)
  map-set_made (k ∷ ss) (suc i) s t h e m = ap (λ x. g.as_made k ∷ x) (map-set_made ss i s t (omega arith) e m)
