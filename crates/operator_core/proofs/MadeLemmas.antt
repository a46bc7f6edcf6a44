-- How the stages were made, and what their notes came to know since.
use Rattle.std.proofs.Common.{◌≡◌, inl, inr, ℕ, zero, suc, ◌<◌, List, [], ◌∷◌, length, get_or, set, Bool, true, false, refl, sym, subst, ◌∙◌, arith}
use Rattle.operator_core.specs.declared.operator.Operator.{Ghosts}
use Rattle.operator_core.specs.Calls.{IsLawful, Looked}
use Rattle.operator_core.specs.Stages.{CameFrom, AllCameFrom}

module _ {S : Type 0} (g : Ghosts S) where
  pub CameFrom-same : (m old new : S) → g.as_made new ≡ g.as_made old → CameFrom g m old → CameFrom g m new
  CameFrom-same m old new e (inl made) = inl (e ∙ made)
  CameFrom-same m old new e (inr learned) = inr (subst (λ (k : S). g.may_learn m k) (sym e) learned)

  -- who learned knows
  learned-knows : IsLawful g → (m s : S) → g.may_learn m (g.as_made s) → g.knows s ≡ true
  learned-knows laws m s l = sym (laws.note.made_knows s) ∙ (laws.note.learns_made m (g.as_made s) l).0

  first-learned : IsLawful g → (m old new : S) → g.may_learn old (g.as_made new) → g.knows old ≡ false → CameFrom g m old → CameFrom g m new
  first-learned laws m old new l unknown (inl made) =
      inr (subst (λ (k : S). g.may_learn k (g.as_made new)) made ((laws.note.learns_as_made old (g.as_made new)).0 l))
  first-learned laws m old new l unknown (inr learned) = let known = learned-knows laws m old learned in cc

  looked-at : IsLawful g → (m old new : S) → Looked g old new → CameFrom g m old → (before after : Bool) → g.knows old ≡ before → g.knows new ≡ after → CameFrom g m new
  looked-at laws m old new t came true after b a = CameFrom-same m old new (t.same (t.known b ∙ sym b)) came
  looked-at laws m old new t came false true b a = first-learned laws m old new (t.learns b a) b came
  looked-at laws m old new t came false false b a = CameFrom-same m old new (t.same (a ∙ sym b)) came

  pub CameFrom-looked : IsLawful g → (m old new : S) → Looked g old new → CameFrom g m old → CameFrom g m new
  CameFrom-looked laws m old new t came = looked-at laws m old new t came (g.knows old) (g.knows new) refl refl

  pub AllCameFrom-set : (ms ss : List S) (i : ℕ) (s t : S) → i < length ss → s ≡ get_or ss i s → ((m : S) → CameFrom g m s → CameFrom g m t)
      → AllCameFrom g ms ss → AllCameFrom g ms (set ss i t)
  AllCameFrom-set ms [] i s t h e step all = absurd (omega arith)
  AllCameFrom-set [] (k ∷ ss) i s t h e step all = absurd all
  AllCameFrom-set (m ∷ ms) (k ∷ ss) zero s t h e step all = (step m (subst (λ (k : S). CameFrom g m k) (sym e) all.0), all.1)
  AllCameFrom-set (m ∷ ms) (k ∷ ss) (suc i) s t h e step all = (all.0, AllCameFrom-set ms ss i s t (omega arith) e step all.1)
