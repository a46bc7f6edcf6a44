-- The ids of the joins of a run.
use Rattle.std.specs.Prelude.{ℕ, List, [], ◌∷◌, ◌++◌, Contains}
use Rattle.plan_run_laws.specs.RunPlans.{RunPlan, scan, values, remote, step, halves, join, union}

abbrev pub joins_of : RunPlan → List ℕ
joins_of (scan id table columns types) = []
joins_of (values id types rows) = []
joins_of (remote id output m input) = joins_of input
joins_of (step id s input) = joins_of input
joins_of (join id kind on left right) = id ∷ joins_of left ++ joins_of right
joins_of (halves id source output m h input) = joins_of input
joins_of (union id left right) = joins_of left ++ joins_of right

-- no id is in both
abbrev pub AreApart : List ℕ → List ℕ → Type 0
AreApart ids others = (id : ℕ) → Contains ids id → Contains others id → ⊥

-- no two joins of the run have one id
abbrev pub JoinsApart : RunPlan → Type 0
JoinsApart (scan id table columns types) = Unit {0}
JoinsApart (values id types rows) = Unit {0}
JoinsApart (remote id output m input) = JoinsApart input
JoinsApart (step id s input) = JoinsApart input
JoinsApart (join id kind on left right) =
    JoinsApart left × JoinsApart right × (Contains (joins_of left ++ joins_of right) id → ⊥) × AreApart (joins_of left) (joins_of right)
JoinsApart (halves id source output m h input) = JoinsApart input
JoinsApart (union id left right) = JoinsApart left × JoinsApart right × AreApart (joins_of left) (joins_of right)
