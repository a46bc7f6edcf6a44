-- Laws of `NotNull`.
use Rattle.std.specs.Prelude.{◌≡◌, ◌↔◌, ℕ, List, [], ◌∷◌, ◌++◌, Bool, true, false, not, ◌&&◌, ◌||◌, if◌then◌else◌, refl}
use Rattle.sql_values.specs.declared.fail.Fail.{Fail}
use Rattle.sql_values.specs.declared.fail.Fail.TheVariants.{BadCast}
use Rattle.operator_core.specs.Rows.{Row}
use Rattle.operator_core.specs.Samples.{has_row}

-- what `NotNull` has left is what it holds
pub not_null-rest : (failed : Bool) (held B : List Row) → B ≡ (if failed then held else (held ++ []))
    → (has_row held ≡ false) ↔ (B ≡ [])
not_null-rest true [] B e = ((λ _. e), (λ _. refl))
not_null-rest true (row ∷ rows) B e = ((λ f. cc), (λ f. cc))
not_null-rest false [] B e = ((λ _. e), (λ _. refl))
not_null-rest false (row ∷ rows) B e = ((λ f. cc), (λ f. cc))

-- the failure of `NotNull` at a node, once no row comes any more
abbrev pub NotNullFails : Bool → ℕ → ℕ → Fail → Type 0
NotNullFails failed own node kind = (node ≡ own) × (kind ≡ BadCast) × ((failed || false) ≡ true)

pub not_null-finished : (told failed : Bool) (held : List Row) (own : ℕ) →
    ((told && not (failed || has_row held)) ≡ true) ↔ ((told ≡ true) × (has_row held ≡ false)
    × ((node : ℕ) (kind : Fail) → NotNullFails failed own node kind → ⊥))
not_null-finished true true held own = ((λ e. cc), (λ h. absurd (h.2 own BadCast (refl, refl, refl))))
not_null-finished true false [] own = ((λ e. (refl, refl, λ node kind f. absurd (cc (f.2)))), (λ h. refl))
not_null-finished true false (row ∷ rows) own = ((λ e. cc), (λ h. cc (h.1)))
not_null-finished false failed held own = ((λ e. cc), (λ h. cc (h.0)))
