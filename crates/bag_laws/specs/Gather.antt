-- The lists of all tasks, one behind the other.
use Rattle.std.specs.Prelude.{ℕ, zero, suc, List, [], ◌++◌}

-- the lists of the tasks below a number
abbrev pub gather : {X : Type 0} → ℕ → (ℕ → List X) → List X
gather zero lists = []
gather (suc tasks) lists = gather tasks lists ++ lists tasks
