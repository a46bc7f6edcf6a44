-- All pipes of the layout of a consistent plan can be made.
use Rattle.std.proofs.Common.{◌≡◌, ℕ, List, [], map, Bool, true, false, refl, sym, subst}
use Rattle.sql_values.specs.declared.table.Table.{Table}
use Rattle.plan_docs.specs.Plans.{PlanForm}
use Rattle.plan_run_laws.specs.RunPlans.{RunPlan, tree_of_run}
use Rattle.plan_layout.specs.declared.pipe.Parallelism.{Parallelism}
use Rattle.plan_layout.specs.Edges.{reads_edge}
use Rattle.plan_layout.specs.Layouts.{layout_of}
use Rattle.plan_layout.specs.Pipes.{PipeForm, SourceForm, StepForm, edge, fragment, rows, sides, table}
use Rattle.tree_evaluator.specs.Fits.{FitsTables}
use Rattle.tree_evaluator.specs.Stops.{rows_of_table}
use Rattle.plan_fit_laws.specs.Reads.{ReadsTables}
use Rattle.net_laws.specs.Reached.{AreReached, IsWithin, is_fetching}
use Rattle.driver_net_laws.specs.Makes.{LayoutFits, PipeFits, SourceFits, StepsFit}
use Rattle.driver_net_laws.specs.Types.{PipesAreTyped, PipeTypes}
use Rattle.net_laws.proofs.TypeLemmas.{at_pipe}
use Rattle.net_laws.proofs.PlainLemmas.{plan_plain}
use Rattle.net_laws.proofs.MakeLemmas.{pipe_good, run_makes}

edge_fits : (tables : List Table) (source : SourceForm) → reads_edge source ≡ true → SourceFits tables source
edge_fits tables (edge of numbers) is = tt
edge_fits tables (table place columns kinds) is = absurd cc
edge_fits tables (rows kinds list) is = absurd cc
edge_fits tables sides is = absurd cc
edge_fits tables (fragment number) is = absurd cc

-- a pipe that fetches has nothing to be made
plain_fits : (tables : List Table) (types : ℕ → PipeTypes) (at : ℕ) (pipe : PipeForm) → pipe.steps ≡ [] → reads_edge pipe.source ≡ true → PipeFits tables types at pipe
plain_fits tables types at pipe none is = record {
  source = edge_fits tables pipe.source is;
  steps = subst (λ (ss : List StepForm). StepsFit types (types at).halved ss (types at).taken) (sym none) tt;
}

pub plan_fits : (p : Parallelism) (plan : PlanForm) (run : RunPlan) (tables : List Table) → AreReached (layout_of p plan) run → FitsTables (tree_of_run run) (map rows_of_table tables)
    → ReadsTables tables run → (types : ℕ → PipeTypes) → PipesAreTyped (layout_of p plan) types → LayoutFits tables (layout_of p plan) types
plan_fits p plan run tables reached fits reads types typed at pipe is = by (is_fetching pipe.target) refl
  where
    by : (b : Bool) → is_fetching pipe.target ≡ b → PipeFits tables types at pipe
    by true fetches = let plain = plan_plain p plan at pipe is fetches in plain_fits tables types at pipe plain.0 plain.1
    by false stays =
        let root = reached.root in
        let own = root.pipe in
        let made = run_makes (layout_of p plan) types typed tables 1 run reached.at own.drivers own.source own.steps (at_pipe (layout_of p plan) reached.at own root.is) root.so fits reads in
        pipe_good (layout_of p plan) types typed tables reached.at own (λ k. IsWithin (layout_of p plan) k 1 run reached.at own.drivers own.source own.steps root.so) root.is made at
        (reached.each at pipe is stays) pipe is
