use Rattle.plan_docs.specs.Plans.{plan_view}
use Rattle.plan_fit_laws.proofs.ConsistentLemmas.{consistent_fits, consistent_fits_run}
use Rattle.plan_fit_laws.proofs.laws.consistent_plans_fit.Goals as goal

pub returns-clause-tree : goal.returns-clause-tree
returns-clause-tree c = consistent_fits (plan_view c.args.plan.now)

pub returns-clause-run : goal.returns-clause-run
returns-clause-run c = consistent_fits_run (plan_view c.args.plan.now)
