-- How many rows entered the stages of a driver and its target.
use Rattle.std.specs.Prelude.{◌≡◌, ◌+◌, ℕ, List, [], ◌∷◌, length}
use Rattle.operator_core.specs.declared.operator.Operator.{Ghosts}
use Rattle.operator_core.specs.Rows.{Row}
use Rattle.operator_core.specs.Stages.{Steps}

-- as `Linked`, and so many rows entered: each stage those that it took, and the target those that it was given
abbrev pub LinkedBy : {S : Type 0} → Ghosts S → List S → List Row → List Row → ℕ → Type 0
LinkedBy g [] X Y n = (X ≡ Y) × (n ≡ length Y)
LinkedBy g (s ∷ ss) X Y n = (M : List Row) × (m : ℕ) × Steps g s X M × LinkedBy g ss M Y m × (n ≡ length X + m)

-- stages that took X and gave Y took A and gave B now, and so many more rows entered
pub record Counted {S : Type 0} (g : Ghosts S) (old new : List S) (X A Y B : List Row) (rows : ℕ) : Type 0 where
  pub entered : (n : ℕ) → LinkedBy g old X Y n → LinkedBy g new A B (n + rows)
