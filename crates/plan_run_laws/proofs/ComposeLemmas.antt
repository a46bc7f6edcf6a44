-- What the tasks gave at each node says of the tree what the node's spread says. One clause a rule.
use Rattle.std.proofs.Common.{◌≡◌, ℕ, ◌<◌, List, arith, subst, sym}
use Rattle.std.specs.Prelude.{◌==◌}
use Rattle.sql_values.specs.declared.value.Value.{Value}
use Rattle.sql_exprs.specs.Forms.{Form}
use Rattle.bag_laws.specs.Buckets.{AllBelow, Sits, key_bucket}
use Rattle.bag_laws.specs.Laws.{TaskRows}
use Rattle.bag_laws.proofs.VerdictLemmas.{sits-kept_rows}
use Rattle.plan_trees.specs.Allowed.{Judged, Mode, width_of}
use Rattle.plan_trees.specs.Judges.{filter_judge, project_judge}
use Rattle.plan_trees.specs.TreeForms.{TreeForm}
use Rattle.plan_trees.specs.TreeForms as tree
use Rattle.plan_trees.specs.TreeTypes.{types_of}
use Rattle.plan_trees.specs.Widths.{FitsWidths}
use Rattle.plan_run_laws.specs.Placements.{AreColumnsAt, IsRead, Placed, scan_whole, scan_any, values_whole, values_every, remote_whole, remote_by, remote_every, step_whole, halves_whole, filter_stays, project_any, project_by, project_every, join_whole, join_right_every, join_by, aggregate_by, final_by, union_whole, union_any, union_every, any_from_by}
use Rattle.plan_run_laws.specs.RunPlans.{RunPlan, tree_of_run}
use Rattle.plan_run_laws.specs.Runs.{Ran}
use Rattle.plan_run_laws.specs.Spreads.{Says, Spread, Together, any, by, every, whole}
use Rattle.plan_run_laws.proofs.BelowLemmas.{SpreadBelow, columns_below}
use Rattle.plan_run_laws.proofs.ColumnLemmas.{sits-filter_judge, sits-project_judge}
use Rattle.plan_run_laws.proofs.EdgeSteps.{remote_by_step, remote_every_step, remote_whole_step, scan_any_step, scan_whole_step, values_every_step, values_whole_step}
use Rattle.plan_run_laws.proofs.GroupSteps.{aggregate_by_step, final_by_step}
use Rattle.plan_run_laws.proofs.HalvesSteps.{halves_step}
use Rattle.plan_run_laws.proofs.JoinSteps.{join_beside_step, join_by_step, join_whole_step}
use Rattle.plan_run_laws.proofs.JudgeSteps.{judged_every_step, judged_together, judged_whole_step}
use Rattle.plan_run_laws.proofs.ReadLemmas.{read}
use Rattle.plan_run_laws.proofs.UnionSteps.{union_any_step, union_every_step, union_whole_step}

-- there is a task where a fragment is read
pub some_tasks : (m : ℕ) (s : Spread) → IsRead m s → 0 < m
some_tasks m whole one = omega arith
some_tasks m any some = some
some_tasks m (by columns) some = some
some_tasks m every none = absurd none

by_below : (width : ℕ) (s : Spread) → SpreadBelow width s → (columns : List ℕ) → s ≡ by columns → AllBelow width columns
by_below width s below columns e = subst (SpreadBelow width) e below

module _ (mode : Mode) (tables : List (List (List Value))) where
  filter_step : (id : ℕ) (predicate : Form) (t : TreeForm) (n : ℕ) (s : Spread) (ins out : TaskRows) → 0 < n
      → Says s mode t tables n ins → ((k : ℕ) → k < n → Judged mode (filter_judge (types_of t) predicate) (ins k) (out k))
      → Says s mode (tree.filter id predicate t) tables n out
  filter_step id predicate t n whole ins out lt says judged =
      judged_whole_step mode tables t (tree.filter id predicate t) (filter_judge (types_of t) predicate) (λ A rows h j. (A, h, j)) n ins out judged lt says
  filter_step id predicate t n any ins out lt says judged =
      judged_together mode tables t (tree.filter id predicate t) (filter_judge (types_of t) predicate) (λ A rows h j. (A, h, j)) n ins out judged says
  filter_step id predicate t n (by columns) ins out lt says judged = (
    judged_together mode tables t (tree.filter id predicate t) (filter_judge (types_of t) predicate) (λ A rows h j. (A, h, j)) n ins out judged says.0,
    λ k less. subst (Sits (λ row. key_bucket n columns row == k)) (sym ((judged k less).are_kept))
        (sits-kept_rows (λ row. key_bucket n columns row == k) (λ row. key_bucket n columns row == k) (filter_judge (types_of t) predicate)
        (λ row e. sits-filter_judge (types_of t) predicate (λ r. key_bucket n columns r == k) row e) (ins k) (says.1 k less)),
  )
  filter_step id predicate t n every ins out lt says judged =
      judged_every_step mode tables t (tree.filter id predicate t) (filter_judge (types_of t) predicate) (λ A rows h j. (A, h, j)) n ins out judged lt says

  module _ (id : ℕ) (forms : List Form) (t : TreeForm) (n : ℕ) (ins out : TaskRows)
      (judged : (k : ℕ) → k < n → Judged mode (project_judge (types_of t) forms) (ins k) (out k)) where
    project_together : Together mode t tables n ins → Together mode (tree.project id forms t) tables n out
    project_together = judged_together mode tables t (tree.project id forms t) (project_judge (types_of t) forms) (λ A rows h j. (A, h, j)) n ins out judged

    project_every_step : 0 < n → Says every mode t tables n ins → Says every mode (tree.project id forms t) tables n out
    project_every_step = judged_every_step mode tables t (tree.project id forms t) (project_judge (types_of t) forms) (λ A rows h j. (A, h, j)) n ins out judged

    project_by_step : (places taken : List ℕ) → AreColumnsAt forms places taken → Says (by taken) mode t tables n ins
        → Says (by places) mode (tree.project id forms t) tables n out
    project_by_step places taken plain says = (
      project_together says.0,
      λ k less. subst (Sits (λ row. key_bucket n places row == k)) (sym ((judged k less).are_kept))
          (sits-kept_rows (λ row. key_bucket n taken row == k) (λ row. key_bucket n places row == k) (project_judge (types_of t) forms)
          (λ row e. sits-project_judge (types_of t) forms row n k places taken plain e) (ins k) (says.1 k less)),
    )

  pub composed : {n : ℕ} {plan : RunPlan} {s : Spread} → 0 < n → FitsWidths (tree_of_run plan) → Placed n plan s
      → (out : TaskRows) → Ran mode tables n plan out → Says s mode (tree_of_run plan) tables n out
  composed lt fits (scan_whole {id = id} {table = table} {columns = columns} {types = types}) out ran = scan_whole_step mode tables id table columns types out ran
  composed {n = n} lt fits (scan_any {id = id} {table = table} {columns = columns} {types = types}) out ran = scan_any_step mode tables n id table columns types out ran
  composed lt fits (values_whole {id = id} {types = types} {rows = rows}) out ran = values_whole_step mode tables id types rows out ran
  composed {n = n} lt fits (values_every {id = id} {types = types} {rows = rows}) out ran = values_every_step mode tables n id types rows out ran
  composed lt fits (remote_whole {id = id} {m = m} {input = input} {s = s} r d) out (ins, below, passed) =
      remote_whole_step mode tables id m (tree_of_run input) ins out
      (read mode (tree_of_run input) tables m s ins r (composed (some_tasks m s r) fits d ins below)) passed
  composed {n = n} lt fits (remote_by {id = id} {m = m} {input = input} {s = s} {columns = columns} among r d) out (ins, below, passed) =
      remote_by_step mode tables id m (tree_of_run input) ins out
      (read mode (tree_of_run input) tables m s ins r (composed (some_tasks m s r) fits d ins below)) n columns lt passed
  composed {n = n} lt fits (remote_every {id = id} {m = m} {input = input} {s = s} r d) out (ins, below, passed) =
      remote_every_step mode tables id m (tree_of_run input) ins out
      (read mode (tree_of_run input) tables m s ins r (composed (some_tasks m s r) fits d ins below)) n passed
  composed lt fits (step_whole d) out (ins, ran, gives) = (ins 0, composed lt fits d ins ran, gives 0 lt)
  composed lt fits (halves_whole {id = id} {source = source} {m = m} {halved = h} {input = input} {s = s} r d) out (ins, parts, got, below, each, passed, makes) =
      halves_step mode tables id source (tree_of_run input) h m ins parts got out
      (read mode (tree_of_run input) tables m s ins r (composed (some_tasks m s r) fits d ins below)) each passed makes
  composed {n = n} lt fits (filter_stays {id = id} {predicate = predicate} {input = input} {s = s} d) out (ins, ran, judged) =
      filter_step id predicate (tree_of_run input) n s ins out lt (composed lt fits d ins ran) judged
  composed {n = n} lt fits (project_any {id = id} {columns = columns} {input = input} d) out (ins, ran, judged) =
      project_together id columns (tree_of_run input) n ins out judged (composed lt fits d ins ran)
  composed {n = n} lt fits (project_by {id = id} {columns = columns} {input = input} {places = places} {taken = taken} plain d) out (ins, ran, judged) =
      project_by_step id columns (tree_of_run input) n ins out judged places taken plain (composed lt fits d ins ran)
  composed {n = n} lt fits (project_every {id = id} {columns = columns} {input = input} d) out (ins, ran, judged) =
      project_every_step id columns (tree_of_run input) n ins out judged lt (composed lt fits d ins ran)
  composed lt fits (join_whole {id = id} {kind = kind} {on = on} {left = left} {right = right} d e) out (ls, rs, ran, also, joined) =
      join_whole_step mode tables id kind on (tree_of_run left) (tree_of_run right) 1 ls rs out joined lt (composed lt fits.0 d ls ran) (composed lt fits.1 e rs also)
  composed {n = n} lt fits (join_right_every {id = id} {kind = kind} {on = on} {left = left} {right = right} {s = s} d e) out (ls, rs, ran, also, joined) =
      join_beside_step mode tables id kind on (tree_of_run left) (tree_of_run right) n ls rs out joined s lt
      (by_below (width_of (tree_of_run left)) s (columns_below d)) fits.0 (composed lt fits.0 d ls ran) (composed lt fits.1 e rs also)
  composed {n = n} lt fits (join_by {id = id} {kind = kind} {on = on} {left = left} {right = right} pairs among d e) out (ls, rs, ran, also, joined) =
      join_by_step mode tables id kind on (tree_of_run left) (tree_of_run right) n ls rs out joined pairs among (columns_below d) fits.0
      (composed lt fits.0 d ls ran) (composed lt fits.1 e rs also)
  composed {n = n} lt fits (aggregate_by {id = id} {keys = keys} {places = places} {calls = calls} {input = input} some among d) out (ins, ran, taken) =
      aggregate_by_step mode tables id calls (tree_of_run input) ins out n keys places lt some among (composed lt fits d ins ran) taken
  composed {n = n} lt fits (final_by {id = id} {source = source} {m = m} {keys = keys} {columns = columns} {calls = calls} {input = input} {s = s} some among r d) out
      (ins, parts, got, below, each, passed, taken) =
      final_by_step mode tables id source m keys calls (tree_of_run input) ins parts got out
      (read mode (tree_of_run input) tables m s ins r (composed (some_tasks m s r) fits d ins below)) each n columns lt some among passed taken
  composed lt fits (union_whole {id = id} {left = left} {right = right} d e) out (ls, rs, ran, also, put) =
      union_whole_step mode tables id (tree_of_run left) (tree_of_run right) 1 ls rs out put lt (composed lt fits.0 d ls ran) (composed lt fits.1 e rs also)
  composed {n = n} lt fits (union_any {id = id} {left = left} {right = right} d e) out (ls, rs, ran, also, put) =
      union_any_step mode tables id (tree_of_run left) (tree_of_run right) n ls rs out put (composed lt fits.0 d ls ran) (composed lt fits.1 e rs also)
  composed {n = n} lt fits (union_every {id = id} {left = left} {right = right} d e) out (ls, rs, ran, also, put) =
      union_every_step mode tables id (tree_of_run left) (tree_of_run right) n ls rs out put (composed lt fits.0 d ls ran) (composed lt fits.1 e rs also)
  composed lt fits (any_from_by d) out ran = (composed lt fits d out ran).0
