use Rattle.std.proofs.Common.{List, refl, ap, sym, subst, ◌∙◌}
use Rattle.std.specs.Prelude.{map}
use Rattle.net_laws.specs.Makes.{LayoutFits}
use Rattle.net_laws.specs.Types.{PipesAreTyped}
use Rattle.plan_docs.specs.Plans.{plan_view}
use Rattle.plan_fit_laws.proofs.ConsistentLemmas.{some}
use Rattle.plan_layout.specs.Pipes.{PipeForm, pipe_view}
use Rattle.tree_evaluator.specs.Stops.{rows_of_table}
use Rattle.net_making.specs.Nets as made
use Rattle.task_executor.specs.Shapes.{parallelism_of}
use Rattle.task_executor.proofs.net.Net.build.Goals as goal

pub drivers_of-requires-clause-fits : goal.drivers_of-requires-clause-fits
drivers_of-requires-clause-fits g c types typed =
    let plan = plan_view c.args.plan.now in
    let first = some plan c.requires.consistent in
    let laid = c.requires.laid in
    subst (λ (layout : List PipeForm). LayoutFits c.args.tables.now layout types) (sym laid)
    (c.layouts_fit.ensures c.requires.consistent (parallelism_of c.args.shape.now) first.f first.is c.args.tables.now c.requires.columns c.requires.readable types
    (subst (λ (layout : List PipeForm). PipesAreTyped layout types) laid typed))

pub returns : goal.returns
returns g c =
    let plan = plan_view c.args.plan.now in
    let first = some plan c.requires.consistent in
    let same = ap (map pipe_view) c.as_slice.ensures.value in
    record {
      of = refl;
      consistent = c.requires.consistent;
      first = first.f;
      is_first = first.is;
      parallelism = parallelism_of c.args.shape.now;
      some = c.requires.shape.tasks;
      laid = same ∙ c.requires.laid;
      fits = c.consistent_plans_fit.ensures.tree c.requires.consistent c.args.tables.now c.requires.columns c.requires.readable;
      over = (_, subst (λ (layout : List PipeForm). made.IsNewNetOf layout (map rows_of_table c.args.tables.now) c.args.shape.now.split c.in_ok-drivers.drivers.items) (sym same) c.in_ok-drivers.ensures);
    }
