-- A run that meets the premises, whatever the tables hold: two tables, each scanned in two tasks, cross
-- hashed edges to the two tasks that join them, and one task takes the rows.
use Rattle.std.proofs.Common.{ℕ, zero, suc, List, [], ◌∷◌, refl, arith}
use Rattle.std.specs.Prelude.{All, Contains}
use Rattle.std.proofs.lemmas.List.{append-nil}
use Rattle.sql_values.specs.declared.types.SqlType.{SqlType}
use Rattle.sql_values.specs.declared.types.SqlType.TheVariants as type
use Rattle.sql_values.specs.declared.relational.JoinKind.TheVariants.{Left}
use Rattle.relation_laws.specs.Joins.{join_of}
use Rattle.bag_laws.specs.Buckets.{AllBelow, key_bucket, of_bucket}
use Rattle.bag_laws.specs.Gather.{gather}
use Rattle.bag_laws.specs.Weights.{SameWeights}
use Rattle.bag_laws.proofs.BagLemmas.{same-from_equal, same-refl}
use Rattle.plan_trees.specs.Allowed.{Allows, scanned, strict}
use Rattle.plan_run_laws.specs.Nets.{Below, Lanes, Went, of_tasks}
use Rattle.plan_run_laws.specs.Stages.{probe}
use Rattle.plan_run_laws.specs.Placements.{Placed, join_by, remote_by, remote_whole, scan_any}
use Rattle.plan_run_laws.specs.RunPlans.{RunPlan, hashed, join, remote, scan, single, tree_of_run}
use Rattle.plan_run_laws.specs.Spreads.{Tables, any, by, whole}
use Rattle.plan_run_laws.proofs.ComposeLemmas.{composed}
use Rattle.plan_run_laws.proofs.WireLemmas.{wired}

abbrev types : List SqlType
types = type.Bigint ∷ type.Varchar ∷ []

abbrev columns : List ℕ
columns = 0 ∷ 1 ∷ []

-- both sides are joined, and hashed, by their first column
abbrev on : List (ℕ × ℕ)
on = (0, 0) ∷ []

-- a table scanned in two tasks, hashed to two tasks
abbrev side : ℕ → ℕ → ℕ → RunPlan
side source id table = remote source (hashed (0 ∷ [])) 2 (scan id table columns types)

abbrev joined : RunPlan
joined = join 1 Left on (side 2 3 0) (side 4 5 1)

abbrev plan : RunPlan
plan = remote 0 single 2 joined

among_itself : All (Contains on) on
among_itself zero d lt = (zero, omega arith, refl)
among_itself (suc k) d lt = absurd (omega (arith, lt))

first_below : AllBelow 2 (0 ∷ [])
first_below zero d lt = omega arith
first_below (suc k) d lt = absurd (omega (arith, lt))

placed : Placed 1 plan whole
placed =
    remote_whole {s = by (0 ∷ [])} (omega arith)
    (join_by on among_itself (remote_by {s = any} first_below (omega arith) scan_any) (remote_by {s = any} first_below (omega arith) scan_any))

module _ (tables : Tables) where
  -- the first task claims all rows
  abbrev claimed : ℕ → Lanes
  claimed table zero d = scanned tables table columns
  claimed table (suc k) d = []

  claimed_all : (table : ℕ) → SameWeights (gather 2 (of_tasks 1 (claimed table))) (scanned tables table columns)
  claimed_all table = same-from_equal (append-nil (scanned tables table columns))

  -- the rows of a task's bucket
  abbrev got : ℕ → Lanes
  got table k d = of_bucket (key_bucket 2 (0 ∷ [])) k (gather 2 (of_tasks 1 (claimed table)))

  abbrev probed : Lanes
  probed k d = join_of Left on 2 2 (got 0 k d) (got 1 k d)

  abbrev answer : Lanes
  answer k d = gather 2 (of_tasks 1 probed)

  below : Below strict tables 1 1 plan [] answer
  below = (
    record { drivers = 1; builds = of_tasks 1 (got 1) ∷ []; took = got 0; gave = probed },
    (
      record { drivers = 1; builds = []; took = got 1; gave = got 1 },
      (
        record { drivers = 1; builds = []; took = claimed 1; gave = claimed 1 },
        claimed_all 1,
        λ k d lt less. ([], refl, refl),
        λ k lt. same-refl (got 1 k 0),
      ),
      λ k d lt less. ([], refl, refl),
      λ k lt. same-refl (got 1 k 0),
      (
        record { drivers = 1; builds = []; took = claimed 0; gave = claimed 0 },
        claimed_all 0,
        λ k d lt less. ([], refl, refl),
        λ k lt. same-refl (got 0 k 0),
      ),
    ),
    λ k d lt less.
        (probe Left on 2 2 (got 1 k d) ∷ [], (got 1 k d, same-refl (got 1 k d), ([], refl, refl)), (probed k d, same-refl (probed k d), refl)),
    λ k lt. same-refl (gather 2 (of_tasks 1 probed)),
  )

  went : Went strict 1 1 plan [] answer answer
  went k d lt less = ([], refl, refl)

  -- so the rows of both tasks, one behind the other, are a list that the plan's tree allows
  pub allowed : Allows (tree_of_run plan) tables (answer 0 0)
  allowed = composed strict tables (omega arith) (refl, refl) placed (of_tasks 1 answer) (wired strict tables 1 1 plan [] answer answer below went)
