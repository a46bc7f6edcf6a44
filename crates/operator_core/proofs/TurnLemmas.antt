-- A list of stages: each was told to finish only where its giver was finished.
use Rattle.std.proofs.Common.{◌≡◌, ℕ, zero, suc, ◌<◌, List, [], ◌∷◌, length, get_or, set, take, map, Bool, true, false, refl, sym, ap, ◌∙◌, arith}
use Rattle.operator_core.specs.declared.operator.Operator.{Ghosts}
use Rattle.operator_core.specs.Calls.{IsLawful}
use Rattle.operator_core.specs.Stages.{ToldInTurn, last_finished, giver_finished}

module _ {S : Type 0} (g : Ghosts S) where
  -- a giver that is finished later keeps the turn
  pub Turns-later : (old new : Bool) (ss : List S) → (old ≡ true → new ≡ true) → ToldInTurn g old ss → ToldInTurn g new ss
  Turns-later old new [] so t = tt
  Turns-later old new (s ∷ ss) so t = ((λ told. so (t.0 told)), t.1)

  -- a stage changed, was not told to finish by it, and stays finished where it was
  pub Turns-set : (ended : Bool) (ss : List S) (i : ℕ) (s t : S) → i < length ss → s ≡ get_or ss i s → (g.is_told t ≡ true → g.is_told s ≡ true)
      → (g.is_finished s ≡ true → g.is_finished t ≡ true) → ToldInTurn g ended ss → ToldInTurn g ended (set ss i t)
  Turns-set ended [] i s t h e told over turns = absurd (omega arith)
  Turns-set ended (k ∷ ss) zero s t h e told over turns =
      ((λ x. turns.0 (ap g.is_told (sym e) ∙ told x)), Turns-later (g.is_finished k) (g.is_finished t) ss (λ x. over (ap g.is_finished e ∙ x)) turns.1)
  Turns-set ended (k ∷ ss) (suc i) s t h e told over turns = (turns.0, Turns-set (g.is_finished k) ss i s t (omega arith) e told over turns.1)

  -- a stage whose giver is finished was told to finish
  pub Turns-told : (ended : Bool) (ss : List S) (i : ℕ) (s t : S) → i < length ss → s ≡ get_or ss i s → giver_finished g ended ss i ≡ true
      → (g.is_finished s ≡ true → g.is_finished t ≡ true) → ToldInTurn g ended ss → ToldInTurn g ended (set ss i t)
  Turns-told ended [] i s t h e giver over turns = absurd (omega arith)
  Turns-told ended (k ∷ ss) zero s t h e giver over turns =
      ((λ _. giver), Turns-later (g.is_finished k) (g.is_finished t) ss (λ x. over (ap g.is_finished e ∙ x)) turns.1)
  Turns-told ended (k ∷ ss) (suc i) s t h e giver over turns = (turns.0, Turns-told (g.is_finished k) ss i s t (omega arith) e giver over turns.1)

  -- stages as they were made were not told to finish
  pub Turns-made : IsLawful g → (ended : Bool) (ss : List S) → map g.as_made ss ≡ ss → ToldInTurn g ended ss
  Turns-made laws ended [] e = tt
  Turns-made laws ended (s ∷ ss) e =
      let made : g.as_made s ≡ s = cc in
      let untold : g.is_told s ≡ false = ap g.is_told (sym made) ∙ laws.made_untold s in
      ((λ told. cc), Turns-made laws (g.is_finished s) ss (cc))

  pub Turns-take : (ended : Bool) (ss : List S) (i : ℕ) → ToldInTurn g ended ss → ToldInTurn g ended (take i ss)
  Turns-take ended ss zero turns = tt
  Turns-take ended [] (suc i) turns = tt
  Turns-take ended (s ∷ ss) (suc i) turns = (turns.0, Turns-take (g.is_finished s) ss i turns.1)

  -- the giver of a stage is the last of those before it
  pub giver-last : (ended : Bool) (ss : List S) (i : ℕ) → giver_finished g ended ss i ≡ last_finished g ended (take i ss)
  giver-last ended ss zero = refl
  giver-last ended [] (suc i) = refl
  giver-last ended (s ∷ ss) (suc i) = giver-last (g.is_finished s) ss i

  -- the giver of a stage that was told to finish is finished
  pub giver-told : (ended : Bool) (ss : List S) (i : ℕ) (s : S) → i < length ss → s ≡ get_or ss i s → ToldInTurn g ended ss → g.is_told s ≡ true → giver_finished g ended ss i ≡ true
  giver-told ended [] i s h e turns told = absurd (omega arith)
  giver-told ended (k ∷ ss) zero s h e turns told = turns.0 (ap g.is_told (sym e) ∙ told)
  giver-told ended (k ∷ ss) (suc i) s h e turns told = giver-told (g.is_finished k) ss i s (omega arith) e turns.1 told
