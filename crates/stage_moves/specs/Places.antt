-- Stages at their places before and after, as moves and looks leave each.
use Rattle.std.specs.Prelude.{◌≡◌, ◌≤◌, List, [], ◌∷◌, true}
use Rattle.operator_core.specs.declared.operator.Operator.{Ghosts}
use Rattle.operator_core.specs.Calls.{IsKept, Stays}

-- as many, and at each place one stands so to the other
abbrev pub AtEachPlace : {A : Type 0} → (A → A → Type 0) → List A → List A → Type 0
AtEachPlace R [] [] = Unit {0}
AtEachPlace R (x ∷ xs) (y ∷ ys) = R x y × AtEachPlace R xs ys
AtEachPlace R xs ys = ⊥

-- each stage knows what it knew, and did not look
abbrev pub AllStay : {S : Type 0} → Ghosts S → List S → List S → Type 0
AllStay g old new = AtEachPlace (λ s t. Stays g s t) old new

-- the same stage, which may have worked and looked since
pub record IsLater {S : Type 0} (g : Ghosts S) (old new : S) : Type 0 where
  pub knows : g.knows old ≡ true → g.knows new ≡ true
  pub looks : g.empty_looks old ≤ g.empty_looks new
  pub kept : IsKept g old new

abbrev pub AllLater : {S : Type 0} → Ghosts S → List S → List S → Type 0
AllLater g old new = AtEachPlace (λ s t. IsLater g s t) old new
