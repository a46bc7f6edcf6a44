-- Which sieves come down to each scan of a run.
use Rattle.std.specs.Prelude.{◌≡◌, ◌⊎◌, ℕ, ◌<◌, List, [], ◌∷◌, ◌++◌, Contains, length}
use Rattle.sql_values.specs.declared.relational.JoinKind.{JoinKind}
use Rattle.plan_trees.specs.Allowed.{width_of}
use Rattle.plan_trees.specs.TreeTypes.{types_of}
use Rattle.column_origins.specs.Origins.{left_column}
use Rattle.plan_run_laws.specs.RunPlans.{RunPlan, tree_of_run}
use Rattle.plan_run_laws.specs.RunPlans as plan
use Rattle.lost_row_laws.specs.Sieves.{Sieve, over_input, under}

-- the ids of its scans
abbrev pub scans_of : RunPlan → List ℕ
scans_of (plan.scan id table columns types) = id ∷ []
scans_of (plan.values id types rows) = []
scans_of (plan.remote id output m input) = scans_of input
scans_of (plan.step id s input) = scans_of input
scans_of (plan.join id kind on left right) = scans_of left ++ scans_of right
scans_of (plan.halves id source output m h input) = scans_of input
scans_of (plan.union id left right) = scans_of left ++ scans_of right

-- no scan of the one has the id of one of the other
abbrev pub HaveApart : RunPlan → RunPlan → Type 0
HaveApart left right = (id : ℕ) → Contains (scans_of left) id → Contains (scans_of right) id → ⊥

-- no two of its scans have one id
abbrev pub ScansApart : RunPlan → Type 0
ScansApart (plan.scan id table columns types) = Unit {0}
ScansApart (plan.values id types rows) = Unit {0}
ScansApart (plan.remote id output m input) = ScansApart input
ScansApart (plan.step id s input) = ScansApart input
ScansApart (plan.join id kind on left right) = ScansApart left × ScansApart right × HaveApart left right
ScansApart (plan.halves id source output m h input) = ScansApart input
ScansApart (plan.union id left right) = ScansApart left × ScansApart right × HaveApart left right

-- the sieves that are due at each scan, by its id, are among those that come down to it as `StandsLosing` hands them down,
-- and stand at columns of it: `own` has those of each join, and `sieves` come from above
abbrev pub ComeDown : (ℕ → List Sieve) → (ℕ → List Sieve) → List Sieve → RunPlan → Type 0
ComeDown own due sieves (plan.scan id table columns types) =
    (s : Sieve) → Contains (due id) s → Contains sieves s × (s.column < length types)
ComeDown own due sieves (plan.values id types rows) = Unit {0}
ComeDown own due sieves (plan.remote id output m input) = ComeDown own due sieves input
ComeDown own due sieves (plan.step id s input) = ComeDown own due (under (types_of (tree_of_run input)) s sieves) input
ComeDown own due sieves (plan.halves id source output m h input) = ComeDown own due [] input
ComeDown own due sieves (plan.join id kind on left right) =
    ComeDown own due (over_input (left_column kind (width_of (tree_of_run left))) (own id ++ sieves)) left × ComeDown own due [] right
ComeDown own due sieves (plan.union id left right) = ComeDown own due [] left × ComeDown own due [] right

-- a join of this id and kind, with this left side, is in the run
abbrev pub HasJoin : RunPlan → ℕ → JoinKind → RunPlan → Type 0
HasJoin (plan.scan id table columns types) at how side = ⊥
HasJoin (plan.values id types rows) at how side = ⊥
HasJoin (plan.remote id output m input) at how side = HasJoin input at how side
HasJoin (plan.step id s input) at how side = HasJoin input at how side
HasJoin (plan.join id kind on left right) at how side =
    ((id ≡ at) × (kind ≡ how) × (left ≡ side)) ⊎ (HasJoin left at how side ⊎ HasJoin right at how side)
HasJoin (plan.halves id source output m h input) at how side = HasJoin input at how side
HasJoin (plan.union id left right) at how side = HasJoin left at how side ⊎ HasJoin right at how side
