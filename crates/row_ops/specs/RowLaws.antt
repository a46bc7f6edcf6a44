-- Laws of `FilterProject`.
use Rattle.std.specs.Prelude.{◌≡◌, ◌↔◌, ℕ, List, [], ◌∷◌, Bool, true, false, not, ◌&&◌, ◌||◌, Option, Some, None, is_some, refl}
use Rattle.std.specs.Option.{option_or}
use Rattle.std.proofs.Common.{sym, ◌∙◌, append-nil}
use Rattle.sql_values.specs.declared.value.Value.{Value}
use Rattle.sql_values.specs.declared.fail.Fail.{Fail}
use Rattle.operator_core.specs.Samples.{has_row}
use Rattle.row_ops.specs.RowsHeld.{unless_failed}

none_held : (rows : List (List Value)) → (has_row rows ≡ false) ↔ (rows ≡ [])
none_held [] = ((λ _. refl), (λ _. refl))
none_held (row ∷ rows) = ((λ e. cc), (λ e. cc))

-- what is left where no row comes is what it holds
left_is_held : (failure : Option Fail) (rows : List (List Value)) → unless_failed failure rows [] ≡ rows
left_is_held None rows = append-nil rows
left_is_held (Some kind) rows = refl

pub filter-rest : (failure : Option Fail) (rows B : List (List Value)) → B ≡ unless_failed failure rows []
    → (has_row rows ≡ false) ↔ (B ≡ [])
filter-rest failure rows B e =
    let same : B ≡ rows = e ∙ left_is_held failure rows in
    let h = none_held rows in
    ((λ f. same ∙ h.0 f), (λ f. h.1 (sym same ∙ f)))

-- it is finished where it was told to finish, holds no row, and no row failed
pub filter-finished : (told : Bool) (failure : Option Fail) (rows : List (List Value)) (own : ℕ) →
    ((told && not (is_some failure || has_row rows)) ≡ true) ↔ ((told ≡ true) × (has_row rows ≡ false)
    × ((node : ℕ) (kind : Fail) → (node ≡ own) × (option_or failure None ≡ Some kind) → ⊥))
filter-finished true (Some kind) rows own = ((λ e. cc), (λ h. absurd (h.2 own kind (refl, refl))))
filter-finished true None [] own = ((λ e. (refl, refl, λ node kind f. absurd (cc (f.1)))), (λ h. refl))
filter-finished true None (row ∷ rows) own = ((λ e. cc), (λ h. cc (h.1)))
filter-finished false failure rows own = ((λ e. cc), (λ h. cc (h.0)))
