-- A run that meets the premises: two tasks of two drivers count the rows of a table by partial rows,
-- and one task makes the count of them.
use Rattle.std.proofs.Common.{◌≡◌, ℕ, zero, suc, List, [], ◌∷◌, refl, arith}
use Rattle.std.specs.Prelude.{pos}
use Rattle.std.proofs.lemmas.List.Sorted.{IsPermutation-refl}
use Rattle.sql_values.specs.declared.types.SqlType.{SqlType}
use Rattle.sql_values.specs.declared.types.SqlType.TheVariants as type
use Rattle.sql_values.specs.declared.value.Value.{Value}
use Rattle.sql_values.specs.declared.value.Value.TheVariants.{Bigint, Decimal}
use Rattle.sql_values.specs.declared.relational.Call.{Call}
use Rattle.sql_values.specs.declared.relational.Call.TheVariants.{CountAll}
use Rattle.bag_laws.specs.Gather.{gather}
use Rattle.bag_laws.specs.Pieces.{partials_of}
use Rattle.bag_laws.specs.Weights.{SameWeights}
use Rattle.bag_laws.proofs.BagLemmas.{same-append_comm, same-refl}
use Rattle.plan_trees.specs.Allowed.{Allows, scanned, strict}
use Rattle.plan_run_laws.specs.Nets.{Below, Lanes, Went, of_tasks}
use Rattle.plan_run_laws.specs.Stages.{final}
use Rattle.plan_run_laws.specs.Placements.{Placed, halves_whole, scan_any}
use Rattle.plan_run_laws.specs.RunPlans.{RunPlan, aggregate_parts, scan, single, tree_of_run}
use Rattle.plan_run_laws.specs.Spreads.{whole, any}
use Rattle.plan_run_laws.proofs.ComposeLemmas.{composed}
use Rattle.plan_run_laws.proofs.WireLemmas.{wired}

abbrev row : ℕ → List Value
row n = Bigint (pos n) ∷ []

-- one table of one column
abbrev tables : List (List (List Value))
tables = (row 1 ∷ row 2 ∷ row 3 ∷ []) ∷ []

abbrev types : List SqlType
types = type.Bigint ∷ []

abbrev calls : List Call
calls = CountAll ∷ []

-- the second fragment: a scan and the PARTIAL node, in two tasks
abbrev plan : RunPlan
plan = aggregate_parts 0 1 single 2 [] calls (scan 3 0 (0 ∷ []) types)

placed : Placed 1 plan whole
placed = halves_whole {s = any} (omega arith) scan_any

-- the second task has the first row
abbrev claimed : Lanes
claimed zero zero = row 2 ∷ []
claimed zero d = row 3 ∷ []
claimed (suc k) zero = []
claimed (suc k) d = row 1 ∷ []

claimed_all : SameWeights (gather 2 (of_tasks 2 claimed)) (scanned tables 0 (0 ∷ []))
claimed_all = same-append_comm (row 2 ∷ row 3 ∷ []) (row 1 ∷ [])

-- each driver gives a partial row, also the one that had no row
abbrev counted : Lanes
counted k d = partials_of [] calls (claimed k d)

abbrev got : Lanes
got k d = gather 2 (of_tasks 2 counted)

partial_rows : got 0 0 ≡ (Decimal (pos 1) ∷ []) ∷ (Decimal (pos 1) ∷ []) ∷ (Decimal (pos 0) ∷ []) ∷ (Decimal (pos 1) ∷ []) ∷ []
partial_rows = refl

abbrev answer : Lanes
answer k d = row 3 ∷ []

below : Below strict tables 1 1 plan [] got
below = (
  record { drivers = 2; builds = []; took = claimed; gave = counted },
  refl,
  claimed_all,
  (claimed, λ k d lt less. ([], refl, refl), λ k d lt less. same-refl (counted k d)),
  λ k lt. same-refl (gather 2 (of_tasks 2 counted)),
)

went : Went strict 1 1 plan [] got answer
went k d lt less = (
  final types 0 calls ∷ [],
  refl,
  (row 3 ∷ [], record { calm = refl; are_kept = IsPermutation-refl (row 3 ∷ []) }, refl),
)

-- so the run gave a list that the plan's tree allows
pub allowed : Allows (tree_of_run plan) tables (answer 0 0)
allowed = composed strict tables (omega arith) refl placed (of_tasks 1 answer) (wired strict tables 1 1 plan [] got answer below went)
