-- Laws of operators that hold rows.
use Rattle.std.specs.Prelude.{◌≡◌, ◌↔◌, List, [], ◌∷◌, Bool, true, false, not, ◌||◌, refl}
use Rattle.operator_core.specs.Rows.{Row}
use Rattle.operator_core.specs.Samples.{has_row}

pub has_row-none : (rows : List Row) → (has_row rows ≡ false) ↔ (rows ≡ [])
has_row-none [] = ((λ _. refl), (λ _. refl))
has_row-none (row ∷ rows) = ((λ e. cc), (λ e. cc))

-- an operator needs input exactly where it was not told to finish and holds nothing
pub needs-untold : (told held : Bool) → not (told || held) ≡ true → told ≡ false
needs-untold true held e = cc
needs-untold false held e = refl

pub needs-open : (told held : Bool) → told ≡ false → held ≡ false → not (told || held) ≡ true
needs-open told held t h = rw (t, h) refl
