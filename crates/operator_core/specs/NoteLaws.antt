-- Laws of operators that hold rows back or have a note.
use Rattle.std.proofs.Common.{◌≡◌, ℕ, List, [], ◌∷◌, take, Bool, true, false, refl, zero, suc, not, ◌&&◌}
use Rattle.std.specs.Prelude.{◌↔◌}
use Rattle.sql_values.specs.declared.fail.Fail.{Fail}
use Rattle.operator_core.specs.Rows.{Row}
use Rattle.operator_core.specs.Samples.{has_row}

pub held-finished : (told : Bool) (held : List Row) → ((told && not (has_row held)) ≡ true) ↔ ((told ≡ true) × ((told && has_row held) ≡ false) × ((node : ℕ) (kind : Fail) → ⊥ → ⊥))
held-finished true [] = ((λ e. (refl, refl, λ node kind f. f)), (λ h. refl))
held-finished true (row ∷ rows) = ((λ e. cc), (λ h. cc (h.1)))
held-finished false held = ((λ e. cc), (λ h. cc (h.0)))

pub held-over : (told : Bool) (held : List Row) → ((told && not (has_row held)) ≡ true) ↔ ((told ≡ true) × (has_row held ≡ false) × ((node : ℕ) (kind : Fail) → ⊥ → ⊥))
held-over true [] = ((λ e. (refl, refl, λ node kind f. f)), (λ h. refl))
held-over true (row ∷ rows) = ((λ e. cc), (λ h. cc (h.1)))
held-over false held = ((λ e. cc), (λ h. cc (h.0)))

-- what needs something that does not hold does not hold
pub none-without : (needed rest : Bool) → needed ≡ false → (needed && rest) ≡ false
none-without needed rest e = rw e refl

pub told-needs_none : (told : Bool) → not told ≡ true → told ≡ false
told-needs_none true e = cc
told-needs_none false e = refl

pub told-needs : (told : Bool) → told ≡ false → not told ≡ true
told-needs told e = rw e refl

pub take-none : {A : Type 0} (n : ℕ) → ◌≡◌ {A = List A} (take n []) []
take-none zero = refl
take-none (suc n) = refl
