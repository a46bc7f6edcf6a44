-- A text that is appended part after part.
use Rattle.std.proofs.Common.{◌≡◌, ℕ, List, [], ◌∷◌, ◌++◌, Result, Ok, Err, OnErr, refl, ap, sym, ◌∙◌, append_assoc, append-nil}
use Rattle.scalar_texts.specs.Appends.{AppendsStart}

pub starts_none : (text old new : List ℕ) → new ≡ old → AppendsStart text old new
starts_none text old new e = record { front = []; rest = text; parts = refl; appended = e ∙ sym (append-nil old) }

pub starts_first : (a b old new : List ℕ) → AppendsStart a old new → AppendsStart (a ++ b) old new
starts_first a b old new h =
    record { front = h.front; rest = h.rest ++ b; parts = sym (append_assoc h.front h.rest b) ∙ ap (λ x. x ++ b) h.parts; appended = h.appended }

pub starts_second : (a b old mid new : List ℕ) → mid ≡ old ++ a → AppendsStart b mid new → AppendsStart (a ++ b) old new
starts_second a b old mid new e h =
    record {
      front = a ++ h.front;
      rest = h.rest;
      parts = append_assoc a h.front h.rest ∙ ap (λ x. a ++ x) h.parts;
      appended = h.appended ∙ ap (λ x. x ++ h.front) e ∙ append_assoc old a h.front;
    }

pub starts_after : (c : ℕ) (b old mid new : List ℕ) → mid ≡ old ++ c ∷ [] → AppendsStart b mid new → AppendsStart (c ∷ b) old new
starts_after c b old mid new e h = starts_second (c ∷ []) b old mid new e h

-- the same where the last part is appended by the last call
pub fails_second : {A E : Type 0} (r : Result A E) (a b old mid new : List ℕ) → mid ≡ old ++ a → OnErr r (AppendsStart b mid new) → OnErr r (AppendsStart (a ++ b) old new)
fails_second (Ok x) a b old mid new e h = h
fails_second (Err x) a b old mid new e h = starts_second a b old mid new e h

pub fails_after : {A E : Type 0} (r : Result A E) (c : ℕ) (b old mid new : List ℕ) → mid ≡ old ++ c ∷ [] → OnErr r (AppendsStart b mid new) → OnErr r (AppendsStart (c ∷ b) old new)
fails_after r c b old mid new e h = fails_second r (c ∷ []) b old mid new e h

pub ruleset appending = (starts_none, starts_first, starts_second, starts_after, fails_second, fails_after)
