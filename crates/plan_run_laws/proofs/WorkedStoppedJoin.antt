-- A stopped run behind a LEFT join: both tasks have the whole right side by BROADCAST, its build is done
-- and noted, and the project above fails on the row of one task. All sources have ended.
use Rattle.std.proofs.Common.{◌≡◌, ℕ, zero, suc, List, [], ◌∷◌, true, refl, ap, arith, inl}
use Rattle.std.specs.Prelude.{pos, Option, Some, unwrap_or}
use Rattle.sql_values.specs.declared.types.SqlType.{SqlType}
use Rattle.sql_values.specs.declared.types.SqlType.TheVariants as type
use Rattle.sql_values.specs.declared.value.Value.{Value}
use Rattle.sql_values.specs.declared.value.Value.TheVariants.{Bigint, Null}
use Rattle.sql_values.specs.declared.fail.Fail.TheVariants.{DivisionByZero}
use Rattle.sql_values.specs.declared.relational.JoinKind.TheVariants.{Left}
use Rattle.sql_functions.specs.declared.name.CallName.TheVariants.{Divide}
use Rattle.sql_exprs.specs.Forms.{Form, call, column, more, none}
use Rattle.relation_laws.specs.Joins.{join_of}
use Rattle.bag_laws.proofs.BagLemmas.{same-from_equal, same-refl}
use Rattle.plan_trees.specs.Stopped.{MayFail}
use Rattle.plan_run_laws.specs.Faults.{Failed}
use Rattle.plan_run_laws.specs.Nets.{Lanes}
use Rattle.plan_run_laws.specs.Stages.{probe}
use Rattle.plan_run_laws.specs.Placements.{Placed, join_right_every, project_any, remote_every, remote_whole, scan_any}
use Rattle.plan_run_laws.specs.RunPlans.{RunPlan, broadcast, join, project, remote, scan, single, tree_of_run}
use Rattle.plan_run_laws.specs.Spreads.{Tables, any, whole}
use Rattle.plan_run_laws.specs.Stops.{AreOpen, Flags, StoppedPipe}
use Rattle.plan_run_laws.proofs.FailedLemmas.{failed}
use Rattle.plan_run_laws.proofs.GoOnLemmas.{goes_on-over}

abbrev row : ℕ → List Value
row n = Bigint (pos n) ∷ []

-- the left side's row 1 has no partner
abbrev tables : Tables
tables = (row 0 ∷ row 1 ∷ []) ∷ (row 0 ∷ []) ∷ []

abbrev types : List SqlType
types = type.Bigint ∷ []

abbrev on : List (ℕ × ℕ)
on = (0, 0) ∷ []

-- the right side's column divided by the left side's
abbrev quotient : Form
quotient = call Divide (more (column 1) (more (column 0) none))

abbrev right : RunPlan
right = remote 4 broadcast 1 (scan 5 1 (0 ∷ []) types)

abbrev joined : RunPlan
joined = join 2 Left on (scan 3 0 (0 ∷ []) types) right

abbrev plan : RunPlan
plan = remote 0 single 2 (project 1 (quotient ∷ []) joined)

placed : Placed 1 plan whole
placed = remote_whole {s = any} (omega arith) (project_any (join_right_every scan_any (remote_every {s = any} (omega arith) scan_any)))

-- the first task claimed all rows of the left side
abbrev probed : Lanes
probed zero d = row 0 ∷ row 1 ∷ []
probed (suc k) d = []

abbrev built : List (List Value)
built = row 0 ∷ []

abbrev all_of_it : Lanes
all_of_it k d = built

abbrev gave : Lanes
gave k d = join_of Left on 1 1 (probed k d) built

first_rows : gave 0 0 ≡ (Bigint (pos 0) ∷ Bigint (pos 0) ∷ []) ∷ (Bigint (pos 1) ∷ Null ∷ []) ∷ []
first_rows = refl

abbrev all_set : Flags
all_set k d = true

abbrev nothing : Lanes
nothing k d = []

-- the pipeline that scans the right side, and the one that builds from what the edge brought
abbrev scanning : StoppedPipe
scanning = record { drivers = 1; notes = []; took = all_of_it; gave = all_of_it; ended = all_set; done = all_set }

abbrev building : StoppedPipe
building = record { drivers = 1; notes = []; took = all_of_it; gave = all_of_it; ended = all_set; done = all_set }

abbrev probing : StoppedPipe
probing = record { drivers = 1; notes = (λ k d. Some built) ∷ []; took = probed; gave = nothing; ended = all_set; done = all_set }

-- each probing driver, whatever list of these rows its task built
opened : AreOpen [] 2 1 joined ((λ k d. Some built) ∷ []) probed gave all_set all_set
opened k d lt less [] noted = absurd noted
opened k d lt less (build ∷ builds) (same, rest) = (
  probe Left on 1 1 built ∷ [],
  (built, same, ([], refl, refl)),
  goes_on-over (probe Left on 1 1 built ∷ []) (probed k d) (gave k d) (gave k d, same-refl (gave k d), refl),
)

stopped : Failed tables 1 1 plan [] nothing all_set 1 DivisionByZero
stopped = (
  probing,
  inl (
    refl,
    tt,
    record {
      stops = (
        building,
        (
          scanning,
          refl,
          (refl, record { left = []; some = same-refl built; all = λ over. refl; closed = λ over. tt }),
          λ k d lt less builds noted. ([], refl, goes_on-over [] built built refl),
          λ k lt. record { left = []; some = same-refl built; all = λ over. refl; closed = λ over j e under less. refl },
        ),
        λ k d lt less builds noted. ([], refl, goes_on-over [] built built refl),
        λ k d lt less known is. (λ e under. refl, same-from_equal (ap (λ (o : Option (List (List Value))). unwrap_or o []) is)),
        (refl, record { left = []; some = same-refl (row 0 ∷ row 1 ∷ []); all = λ over. refl; closed = λ over. tt }),
      );
      gave = gave;
      done = all_set;
      opened = opened;
      task = 0;
      driver = 0;
      in_tasks = omega arith;
      in_drivers = omega arith;
      failed = λ later may. (Bigint (pos 0) ∷ Bigint (pos 0) ∷ [], (0, omega arith, refl), refl);
    },
  ),
)

-- so the project of the plan's tree may fail with this kind
pub may_fail : MayFail (tree_of_run plan) tables 1 DivisionByZero
may_fail = failed tables 1 DivisionByZero (omega arith) (refl, refl) placed 1 [] nothing all_set stopped
