-- A stopped run in which a FINAL node failed: each of two tasks gave the partial sum of one row, and the
-- sum of both is beyond 64 bits. All sources have ended.
use Rattle.std.proofs.Common.{◌≡◌, ℕ, List, [], ◌∷◌, ◌++◌, true, refl, sym, arith, inl, subst}
use Rattle.std.specs.Prelude.{pos, ◌^◌, ◌-◌, Contains}
use Rattle.sql_values.specs.declared.types.SqlType.{SqlType}
use Rattle.sql_values.specs.declared.types.SqlType.TheVariants as type
use Rattle.sql_values.specs.declared.value.Value.{Value}
use Rattle.sql_values.specs.declared.value.Value.TheVariants.{Bigint, Decimal}
use Rattle.sql_values.specs.declared.fail.Fail.TheVariants.{OutOfRange}
use Rattle.sql_values.specs.declared.relational.Call.{Call}
use Rattle.sql_values.specs.declared.relational.Call.TheVariants.{Sum}
use Rattle.relation_laws.specs.Verdicts.{fails}
use Rattle.bag_laws.specs.Gather.{gather}
use Rattle.bag_laws.specs.Pieces.{finals_of, partials_of}
use Rattle.bag_laws.proofs.BagLemmas.{same-refl}
use Rattle.plan_trees.specs.Stopped.{MayFail}
use Rattle.plan_run_laws.specs.Faults.{Failed}
use Rattle.plan_run_laws.specs.Nets.{Lanes, of_tasks}
use Rattle.plan_run_laws.specs.Stages.{partial}
use Rattle.plan_run_laws.specs.Placements.{Placed, halves_whole, scan_any}
use Rattle.plan_run_laws.specs.RunPlans.{RunPlan, aggregate_parts, scan, single, tree_of_run}
use Rattle.plan_run_laws.specs.Spreads.{Tables, any, whole}
use Rattle.plan_run_laws.specs.Stops.{Flags}
use Rattle.plan_run_laws.proofs.FailedLemmas.{failed}
use Rattle.plan_run_laws.proofs.GoOnLemmas.{goes_on-over}

-- the greatest bigint
abbrev greatest : ℕ
greatest = 2 ^ 63 - 1

abbrev row : List Value
row = Bigint (pos greatest) ∷ []

abbrev tables : Tables
tables = (row ∷ row ∷ []) ∷ []

abbrev types : List SqlType
types = type.Bigint ∷ []

abbrev calls : List Call
calls = Sum 0 ∷ []

abbrev plan : RunPlan
plan = aggregate_parts 0 1 single 2 [] calls (scan 3 0 (0 ∷ []) types)

placed : Placed 1 plan whole
placed = halves_whole {s = any} (omega arith) scan_any

-- each task claimed one row
abbrev claimed : Lanes
claimed k d = row ∷ []

abbrev summed : Lanes
summed k d = partials_of [] calls (claimed k d)

-- both partial rows came to the FINAL node
abbrev got : Lanes
got k d = gather 2 (of_tasks 1 summed)

partial_rows : got 0 0 ≡ (Decimal (pos 1) ∷ Decimal (pos greatest) ∷ []) ∷ (Decimal (pos 1) ∷ Decimal (pos greatest) ∷ []) ∷ []
partial_rows = refl

abbrev all_set : Flags
all_set k d = true

beyond : Contains (finals_of types 0 calls (got 0 0)) (fails OutOfRange)
beyond = (0, omega arith, refl)

stopped : Failed tables 1 1 plan [] got all_set 0 OutOfRange
stopped =
    inl (
      refl,
      record {
        stops = (
          record { drivers = 1; notes = []; took = claimed; gave = summed; ended = all_set; done = all_set },
          refl,
          refl,
          (refl, record { left = []; some = same-refl (row ∷ row ∷ []); all = λ over. refl; closed = λ over. tt }),
          λ k d lt less builds noted. (
            [],
            refl,
            goes_on-over (partial [] calls ∷ []) (claimed k d) (summed k d) (summed k d, same-refl (summed k d), refl),
          ),
          λ k lt. record { left = []; some = same-refl (got 0 0); all = λ over. refl; closed = λ over j e under less. refl },
        );
        task = 0;
        driver = 0;
        in_tasks = omega arith;
        in_drivers = omega arith;
        failed = λ later may.
            subst (λ (rows : List (List Value)). Contains (finals_of types 0 calls (got 0 0 ++ rows)) (fails OutOfRange)) (sym (may refl)) beyond;
      },
    )

-- so the aggregation of the plan's tree may fail with this kind
pub may_fail : MayFail (tree_of_run plan) tables 0 OutOfRange
may_fail = failed tables 0 OutOfRange (omega arith) refl placed 1 [] got all_set stopped
