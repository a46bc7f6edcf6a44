-- What is placed below a node, and what the tasks of a placed node gave is a list that its tree gives.
use Rattle.std.proofs.Common.{◌≡◌, ℕ, ◌<◌, List, map, refl, ap, sym, subst}
use Rattle.sql_values.specs.Cells.{cell}
use Rattle.sql_values.specs.declared.value.Value.{Value}
use Rattle.operator_core.specs.Rows.{Row}
use Rattle.bag_laws.specs.Buckets.{at_places, lefts, rights}
use Rattle.bag_laws.specs.Gather.{gather}
use Rattle.bag_laws.specs.Laws.{TaskRows}
use Rattle.bag_laws.specs.Weights.{SameWeights}
use Rattle.bag_laws.proofs.BagLemmas.{same-map}
use Rattle.bag_laws.proofs.GatherLemmas.{gather-map}
use Rattle.plan_trees.specs.Allowed.{Gives, strict}
use Rattle.plan_trees.specs.TreeForms.{TreeForm}
use Rattle.plan_run_laws.specs.Placements.{Placed, scan_whole, scan_any, values_whole, values_every, remote_whole, remote_by, remote_every, filter_stays, step_whole, project_any, project_by, project_every, join_whole, join_right_every, join_by, aggregate_by, halves_whole, final_by, union_whole, union_any, union_every, any_from_by}
use Rattle.plan_run_laws.specs.RunPlans.{RunPlan}
use Rattle.plan_run_laws.specs.RunPlans as plan
use Rattle.plan_run_laws.specs.Spreads.{Says, Spread, Tables, any, by, every, whole}
use Rattle.plan_run_laws.proofs.ComposeLemmas.{some_tasks}
use Rattle.dyn_filter.specs.Lists.{is_in}
use Rattle.net_laws.proofs.RightKeyLemmas.{HaveSameValues, in_any_order, in_each}

-- the node has some spread, in some tasks
pub record IsPlaced (n : ℕ) (run : RunPlan) : Type 0 where
  pub spread : Spread
  pub placed : Placed n run spread
  pub some : 0 < n

-- and so have those that it reads
abbrev pub InputsPlaced : ℕ → RunPlan → Type 0
InputsPlaced n (plan.scan id table columns types) = Unit {0}
InputsPlaced n (plan.values id types rows) = Unit {0}
InputsPlaced n (plan.remote id output m input) = IsPlaced m input
InputsPlaced n (plan.step id s input) = IsPlaced n input
InputsPlaced n (plan.join id kind on left right) = IsPlaced n left × IsPlaced n right
InputsPlaced n (plan.halves id source output m h input) = IsPlaced m input
InputsPlaced n (plan.union id left right) = IsPlaced n left × IsPlaced n right

placed_with : (n : ℕ) (run : RunPlan) (s : Spread) → 0 < n → Placed n run s → IsPlaced n run
placed_with n run s some d = record { spread = s; placed = d; some = some }

pub inputs_placed : {n : ℕ} {run : RunPlan} {s : Spread} → 0 < n → Placed n run s → InputsPlaced n run
inputs_placed lt scan_whole = tt
inputs_placed lt scan_any = tt
inputs_placed lt values_whole = tt
inputs_placed lt values_every = tt
inputs_placed lt (remote_whole {m = m} {input = input} {s = s} r d) = placed_with m input s (some_tasks m s r) d
inputs_placed lt (remote_by {m = m} {input = input} {s = s} below r d) = placed_with m input s (some_tasks m s r) d
inputs_placed lt (remote_every {m = m} {input = input} {s = s} r d) = placed_with m input s (some_tasks m s r) d
inputs_placed {n = n} lt (filter_stays {input = input} {s = s} d) = placed_with n input s lt d
inputs_placed lt (step_whole {input = input} d) = placed_with 1 input whole lt d
inputs_placed {n = n} lt (project_any {input = input} d) = placed_with n input any lt d
inputs_placed {n = n} lt (project_by {input = input} {taken = taken} plain d) = placed_with n input (by taken) lt d
inputs_placed {n = n} lt (project_every {input = input} d) = placed_with n input every lt d
inputs_placed lt (join_whole {left = left} {right = right} d e) = (placed_with 1 left whole lt d, placed_with 1 right whole lt e)
inputs_placed {n = n} lt (join_right_every {left = left} {right = right} {s = s} d e) = (placed_with n left s lt d, placed_with n right every lt e)
inputs_placed {n = n} lt (join_by {left = left} {right = right} pairs among d e) =
    (placed_with n left (by (lefts pairs)) lt d, placed_with n right (by (rights pairs)) lt e)
inputs_placed {n = n} lt (aggregate_by {keys = keys} {places = places} {input = input} some below d) = placed_with n input (by (at_places keys places)) lt d
inputs_placed lt (halves_whole {m = m} {input = input} {s = s} r d) = placed_with m input s (some_tasks m s r) d
inputs_placed lt (final_by {m = m} {input = input} {s = s} some below r d) = placed_with m input s (some_tasks m s r) d
inputs_placed lt (union_whole {left = left} {right = right} d e) = (placed_with 1 left whole lt d, placed_with 1 right whole lt e)
inputs_placed {n = n} lt (union_any {left = left} {right = right} d e) = (placed_with n left any lt d, placed_with n right any lt e)
inputs_placed {n = n} lt (union_every {left = left} {right = right} d e) = (placed_with n left every lt d, placed_with n right every lt e)
inputs_placed lt (any_from_by d) = inputs_placed lt d

-- a node that is whole stands in a fragment of one task
abbrev pub OneTask : ℕ → Spread → Type 0
OneTask n whole = n ≡ 1
OneTask n any = Unit {0}
OneTask n (by columns) = Unit {0}
OneTask n every = Unit {0}

pub one_task : {n : ℕ} {run : RunPlan} {s : Spread} → Placed n run s → OneTask n s
one_task scan_whole = refl
one_task scan_any = tt
one_task values_whole = refl
one_task values_every = tt
one_task (remote_whole r d) = refl
one_task (remote_by below r d) = tt
one_task (remote_every r d) = tt
one_task (filter_stays d) = one_task d
one_task (step_whole d) = refl
one_task (project_any d) = tt
one_task (project_by plain d) = tt
one_task (project_every d) = tt
one_task (join_whole d e) = refl
one_task (join_right_every d e) = one_task d
one_task (join_by pairs among d e) = tt
one_task (aggregate_by some among d) = tt
one_task (halves_whole r d) = refl
one_task (final_by some among r d) = tt
one_task (union_whole d e) = refl
one_task (union_any d e) = tt
one_task (union_every d e) = tt
one_task (any_from_by d) = tt

-- a list that the tree gives has in each column the values that the tasks' lists have there
pub record IsListed (tree : TreeForm) (tables : Tables) (n : ℕ) (lists : TaskRows) : Type 0 where
  pub rows : List Row
  pub given : Gives strict tree tables rows
  pub same : (column : ℕ) → HaveSameValues (map (λ row. cell row column) (gather n lists)) (map (λ row. cell row column) rows)

module _ (tree : TreeForm) (tables : Tables) (n : ℕ) (lists : TaskRows) (some : 0 < n) where
  in_column : (rows : List Row) → SameWeights (gather n lists) rows → (column : ℕ)
      → HaveSameValues (map (λ row. cell row column) (gather n lists)) (map (λ row. cell row column) rows)
  in_column rows same column =
      in_any_order (map (λ row. cell row column) (gather n lists)) (map (λ row. cell row column) rows) (same-map (λ row. cell row column) same)

  in_every : (rows : List Row) → ((k : ℕ) → k < n → SameWeights (lists k) rows) → (column : ℕ)
      → HaveSameValues (map (λ row. cell row column) (gather n lists)) (map (λ row. cell row column) rows)
  in_every rows each column =
      let value : Row → Value = λ row. cell row column in
      let one : (k : ℕ) → k < n → HaveSameValues (map value (lists k)) (map value rows) =
      λ k lt. in_any_order (map value (lists k)) (map value rows) (same-map value (each k lt)) in
      let all = in_each n (λ k. map value (lists k)) (map value rows) some one in
      subst (λ (keys : List Value). HaveSameValues keys (map value rows)) (sym (gather-map n value lists)) all

  pub listed_as : (s : Spread) → OneTask n s → Says s strict tree tables n lists → IsListed tree tables n lists
  listed_as whole one says =
      let all : gather n lists ≡ lists 0 = ap (λ (m : ℕ). gather m lists) one in
      record { rows = lists 0; given = says; same = λ column v. ap (λ (rows : List Row). is_in (map (λ row. cell row column) rows) v) all }
  listed_as any one says = record { rows = says.rows; given = says.given; same = in_column says.rows says.same }
  listed_as (by columns) one says = record { rows = says.0.rows; given = says.0.given; same = in_column says.0.rows says.0.same }
  listed_as every one says = record { rows = says.rows; given = says.given; same = in_every says.rows says.same }
