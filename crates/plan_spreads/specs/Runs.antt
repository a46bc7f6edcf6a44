-- A plan as it runs: the fragments stand in place of the sources that read them.
use Rattle.std.specs.Prelude.{ℕ, ◌+◌, ◌-◌, List, [], ◌∷◌, map, slice_get, if◌then◌else◌, unwrap_or}
use Rattle.plan_docs.specs.declared.plan.Output.{Output}
use Rattle.plan_docs.specs.declared.plan.Output.TheVariants as output
use Rattle.plan_docs.specs.declared.plan.Placement.{Placement}
use Rattle.plan_docs.specs.Nodes.{NodeForm, scan, values, remote, filter, project, join, aggregate, aggregate_final, sort, top_n, top_n_final, limit, limit_final, union}
use Rattle.plan_docs.specs.Plans.{FragmentForm, PlanForm}
use Rattle.plan_trees.specs.TreeForms.{pair_view}
use Rattle.plan_run_laws.specs.RunPlans.{RunPlan}
use Rattle.plan_run_laws.specs.RunPlans as run
use Rattle.plan_run_laws.specs.Spreads as runs
use Rattle.plan_spreads.specs.declared.spread.RowSpread.{RowSpread}
use Rattle.plan_spreads.specs.declared.spread.RowSpread.TheVariants.{Whole, Any, By, Every}
use Rattle.plan_spreads.specs.Plans.{is_single}

abbrev pub row_spread_view : RowSpread → runs.Spread
row_spread_view Whole = runs.whole
row_spread_view Any = runs.any
row_spread_view (By columns) = runs.by columns
row_spread_view Every = runs.every

-- the rows of a result go to one place
abbrev pub output_view : Output → run.Output
output_view (output.Hash columns) = run.hashed columns
output_view output.Broadcast = run.broadcast
output_view o = run.single

-- a fragment as it runs: how many tasks it has, where their rows go, and its root
pub record Part : Type 0 where
  pub tasks : ℕ
  pub output : run.Output
  pub root : RunPlan

-- one task without rows: what stands for a fragment that is missing
abbrev pub no_part : Part
no_part = record { tasks = 1; output = run.single; root = run.values 0 [] [] }

-- the part that a source reads, where `parts` has those from `first` on
abbrev pub part_read : ℕ → List Part → ℕ → Part
part_read first parts fragment = unwrap_or (slice_get parts (fragment - first)) no_part

-- a PARTIAL root, its remote source and the FINAL node above are one, as they are in the tree of a plan
abbrev pub one_over : ℕ → ℕ → run.Output → ℕ → RunPlan → RunPlan
one_over id source o tasks (run.aggregate half keys calls input) = run.aggregate_parts id source o tasks keys calls input
one_over id source o tasks (run.topn half count keys input) = run.topn_parts id source o tasks count keys input
one_over id source o tasks (run.limit half count input) = run.limit_parts id source o tasks count input
one_over id source o tasks (run.halves half below p n h input) = run.halves id source o tasks h (run.remote below p n input)
one_over id source o tasks root = run.remote source o tasks root

abbrev pub one_with : ℕ → RunPlan → RunPlan
one_with id (run.remote source o tasks root) = one_over id source o tasks root
one_with id node = node

abbrev pub source_run : ℕ → Part → RunPlan
source_run id part = run.remote id part.output part.tasks part.root

abbrev pub node_run : ℕ → List Part → NodeForm → RunPlan
node_run first parts (scan id table columns types) = run.scan id table columns types
node_run first parts (values id types rows) = run.values id types rows
node_run first parts (remote id fragment) = source_run id (part_read first parts fragment)
node_run first parts (filter id predicate input) = run.filter id predicate (node_run first parts input)
node_run first parts (project id columns input) = run.project id columns (node_run first parts input)
node_run first parts (join id kind on filters left right) =
    run.join id kind (map pair_view on) (node_run first parts left) (node_run first parts right)
node_run first parts (aggregate id step keys calls input) = run.aggregate id keys calls (node_run first parts input)
node_run first parts (aggregate_final id input) = one_with id (node_run first parts input)
node_run first parts (sort id keys input) = run.sort id keys (node_run first parts input)
node_run first parts (top_n id step count keys input) = run.topn id count keys (node_run first parts input)
node_run first parts (top_n_final id input) = one_with id (node_run first parts input)
node_run first parts (limit id step count input) = run.limit id count (node_run first parts input)
node_run first parts (limit_final id input) = one_with id (node_run first parts input)
node_run first parts (union id left right) = run.union id (node_run first parts left) (node_run first parts right)

-- one, or as many as the run has
abbrev pub tasks_of : ℕ → Placement → ℕ
tasks_of tasks p = if is_single p then 1 else tasks

abbrev pub fragment_run : ℕ → ℕ → List Part → FragmentForm → Part
fragment_run tasks first parts f =
    record { tasks = tasks_of tasks f.placement; output = output_view f.output; root = node_run first parts f.root }

-- the fragments from place i on, the last one first
abbrev pub fragment_parts : ℕ → ℕ → List FragmentForm → List Part
fragment_parts tasks i [] = []
fragment_parts tasks i (f ∷ fs) = fragment_run tasks (i + 1) (fragment_parts tasks (i + 1) fs) f ∷ fragment_parts tasks (i + 1) fs

abbrev pub plan_run : ℕ → PlanForm → RunPlan
plan_run tasks plan = (part_read 0 (fragment_parts tasks 0 plan.fragments) 0).root
