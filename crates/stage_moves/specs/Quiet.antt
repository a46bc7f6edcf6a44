-- Stages of which no page can move.
use Rattle.std.specs.Prelude.{◌≡◌, ℕ, zero, suc, List, [], ◌∷◌, Bool, true, false, length}
use Rattle.operator_core.specs.declared.operator.Operator.{Ghosts}

-- none of the first `n` stages holds a row that it may give where the next stage takes a page
abbrev pub AreStill : {S : Type 0} → Ghosts S → ℕ → List S → Type 0
AreStill g zero ss = Unit {0}
AreStill g (suc n) [] = Unit {0}
AreStill g (suc n) (s ∷ []) = Unit {0}
AreStill g (suc n) (s ∷ t ∷ ss) = (g.needs_input t ≡ true → g.holds_row s ≡ false) × AreStill g n (t ∷ ss)

-- the last stage holds a row that it may give; without a stage nobody does
abbrev pub last_holds : {S : Type 0} → Ghosts S → List S → Bool
last_holds g [] = false
last_holds g (s ∷ []) = g.holds_row s
last_holds g (s ∷ t ∷ ss) = last_holds g (t ∷ ss)

-- no stage holds a row that the next one would take, nor the last one a row for a target that wants a page
pub record IsQuiet {S : Type 0} (g : Ghosts S) (wants : Bool) (ss : List S) : Type 0 where
  pub stages : AreStill g (length ss) ss
  pub last : wants ≡ true → last_holds g ss ≡ false

-- what an operator says of the rows that it holds and the pages that it takes
pub record NeedsLaws {S : Type 0} (g : Ghosts S) : Type 0 where
  pub late : (s : S) → g.gives_late s ≡ true → g.is_told s ≡ false → g.holds_row s ≡ false
  pub untold : (s : S) → g.needs_input s ≡ true → g.is_told s ≡ false
  pub needs : (s : S) → g.is_told s ≡ false → g.holds_row s ≡ false → (g.waits s ≡ true → g.knows s ≡ true) → g.is_full s ≡ false
      → g.needs_input s ≡ true
