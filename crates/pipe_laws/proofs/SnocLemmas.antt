-- Operators with one more behind them.
use Rattle.std.proofs.Common.{◌≡◌, ◌⊎◌, inl, inr, ℕ, zero, suc, ◌<◌, List, [], ◌∷◌, ◌++◌, Bool, true, length, get_or, map, take, refl, ap, subst, arith, length-append}
use Rattle.operator_core.specs.declared.operator.Operator.{Ghosts}
use Rattle.operator_core.specs.Rows.{Row}
use Rattle.operator_core.specs.Stages.{Chain, Linked, NothingFails, Steps, ToldInTurn, last_finished}

module _ {S : Type 0} (g : Ghosts S) where
  pub Linked-snoc : (before : List S) (s : S) (X Y : List Row) → Linked g (before ++ s ∷ []) X Y → (M : List Row) × Linked g before X M × Steps g s M Y
  Linked-snoc [] s X Y (N, steps, is) = (X, refl, subst (Steps g s X) is steps)
  Linked-snoc (k ∷ before) s X Y (N, steps, rest) = let r = Linked-snoc before s N Y rest in (r.0, (N, steps, r.1), r.2)

  pub Turns-snoc : (ended : Bool) (before : List S) (s : S) → ToldInTurn g ended (before ++ s ∷ [])
      → ToldInTurn g ended before × (g.is_told s ≡ true → last_finished g ended before ≡ true)
  Turns-snoc ended [] s turns = (tt, turns.0)
  Turns-snoc ended (k ∷ before) s turns = let r = Turns-snoc (g.is_finished k) before s turns.1 in ((turns.0, r.0), r.1)

  pub last-snoc : (ended : Bool) (before : List S) (s : S) → last_finished g ended (before ++ s ∷ []) ≡ g.is_finished s
  last-snoc ended [] s = refl
  last-snoc ended (k ∷ before) s = last-snoc (g.is_finished k) before s

  pub Chain-snoc : (before : List S) (s : S) (X Y : List Row) → Chain g true (map g.as_made (before ++ s ∷ [])) X Y
      → (M : List Row) × Chain g true (map g.as_made before) X M × g.may_give (g.as_made s) M Y × NothingFails g (g.as_made s) M
  Chain-snoc [] s X Y (N, gives, calm, is) = (X, refl, subst (g.may_give (g.as_made s) X) is gives, calm refl)
  Chain-snoc (k ∷ before) s X Y (N, gives, calm, rest) = let r = Chain-snoc before s N Y rest in (r.0, (N, gives, calm, r.1), r.2, r.3)

module _ {X : Type 0} where
  -- a place is that of the last item, or of one before it
  pub record Place (before : List X) (last : X) (i : ℕ) (x : X) : Type 0 where
    pub front : take i (before ++ last ∷ []) ≡ take i before
    pub below : i < length before
    pub is : x ≡ get_or before i x

  pub last_or_before : (before : List X) (last : X) (i : ℕ) (x : X) → i < length (before ++ last ∷ []) → x ≡ get_or (before ++ last ∷ []) i x
      → ((take i (before ++ last ∷ []) ≡ before) × (x ≡ last)) ⊎ Place before last i x
  last_or_before [] last zero x lt is = inl (refl, is)
  last_or_before [] last (suc i) x lt is = absurd (omega (arith, lt))
  last_or_before (b ∷ before) last zero x lt is = inr (record { front = refl; below = omega arith; is = is })
  last_or_before (b ∷ before) last (suc i) x lt is = further b before last i x (last_or_before before last i x (omega (arith, lt)) is)
    where
      further : (b : X) (before : List X) (last : X) (i : ℕ) (x : X) → ((take i (before ++ last ∷ []) ≡ before) × (x ≡ last)) ⊎ Place before last i x
          → ((b ∷ take i (before ++ last ∷ []) ≡ b ∷ before) × (x ≡ last)) ⊎ Place (b ∷ before) last (suc i) x
      further b before last i x (inl (front, is)) = inl (ap (λ (rest : List X). b ∷ rest) front, is)
      further b before last i x (inr p) = inr (record { front = ap (λ (rest : List X). b ∷ rest) p.front; below = omega (arith, p.below); is = p.is })

  pub only_one : (before after : List X) (a x : X) → a ∷ [] ≡ before ++ x ∷ after → (before ≡ []) × (a ≡ x)
  only_one [] after a x e = let same : a ≡ x = cc in (refl, same)
  only_one (b ∷ before) after a x e = absurd (omega (arith, ap length e, length-append before (x ∷ after)))
