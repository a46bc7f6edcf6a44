-- A stopped run in which a driver failed: of two tasks, one took a row on which its filter divides by
-- zero, and the other took none so far.
use Rattle.std.proofs.Common.{ℕ, zero, suc, List, [], ◌∷◌, false, refl, sym, arith, inl}
use Rattle.std.specs.Prelude.{pos}
use Rattle.std.proofs.lemmas.Bool.{true≢false}
use Rattle.sql_values.specs.declared.types.SqlType.TheVariants as type
use Rattle.sql_values.specs.declared.value.Value.{Value}
use Rattle.sql_values.specs.declared.value.Value.TheVariants.{Bigint}
use Rattle.sql_values.specs.declared.fail.Fail.TheVariants.{DivisionByZero}
use Rattle.sql_functions.specs.declared.name.CallName.TheVariants.{Divide, Equal}
use Rattle.sql_exprs.specs.Forms.{Form, call, column, literal, more, none}
use Rattle.plan_trees.specs.Stopped.{MayFail}
use Rattle.plan_run_laws.specs.Faults.{Failed}
use Rattle.plan_run_laws.specs.Nets.{Lanes}
use Rattle.plan_run_laws.specs.Placements.{Placed, filter_stays, remote_whole, scan_any}
use Rattle.plan_run_laws.specs.RunPlans.{RunPlan, filter, remote, scan, single, tree_of_run}
use Rattle.plan_run_laws.specs.Spreads.{Tables, any, whole}
use Rattle.plan_run_laws.specs.Stops.{Flags}
use Rattle.plan_run_laws.proofs.FailedLemmas.{failed}

abbrev row : ℕ → List Value
row n = Bigint (pos n) ∷ []

abbrev tables : Tables
tables = (row 1 ∷ row 2 ∷ []) ∷ []

-- the column divided by zero
abbrev quotient : Form
quotient = call Divide (more (column 0) (more (literal type.Bigint (Bigint (pos 0))) none))

-- whether it is zero
abbrev predicate : Form
predicate = call Equal (more quotient (more (literal type.Bigint (Bigint (pos 0))) none))

abbrev plan : RunPlan
plan = remote 0 single 2 (filter 1 predicate (scan 2 0 (0 ∷ []) (type.Bigint ∷ [])))

placed : Placed 1 plan whole
placed = remote_whole {s = any} (omega arith) (filter_stays scan_any)

-- the second task has the second row in hand, and nothing has come to the root
abbrev taken : Lanes
taken zero d = []
taken (suc k) d = row 2 ∷ []

abbrev nothing : Lanes
nothing k d = []

abbrev nobody : Flags
nobody k d = false

stopped : Failed tables 1 1 plan [] nothing nobody 1 DivisionByZero
stopped = (
  record { drivers = 1; notes = []; took = taken; gave = nothing; ended = nobody; done = nobody },
  inl (
    refl,
    tt,
    record {
      stops = (
        refl,
        record {
          left = row 1 ∷ [];
          some = record { weighs = λ h. omega arith };
          all = λ all. absurd (true≢false (sym (all 0 0 (omega arith) (omega arith))));
          closed = λ all. tt;
        },
      );
      gave = taken;
      done = nobody;
      opened = λ k d lt less builds noted. ([], refl, λ later may. record { rest = later; chain = refl; none = may });
      task = 1;
      driver = 0;
      in_tasks = omega arith;
      in_drivers = omega arith;
      failed = λ later may. (row 2, (0, omega arith, refl), refl);
    },
  ),
)

-- so the filter of the plan's tree may fail with this kind
pub may_fail : MayFail (tree_of_run plan) tables 1 DivisionByZero
may_fail = failed tables 1 DivisionByZero (omega arith) refl placed 1 [] nothing nobody stopped
