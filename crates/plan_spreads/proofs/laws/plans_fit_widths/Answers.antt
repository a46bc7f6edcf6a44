use Rattle.plan_docs.specs.Plans.{plan_view}
use Rattle.plan_spreads.proofs.FitLemmas.{parts_fit, plan_fits}
use Rattle.plan_spreads.proofs.laws.plans_fit_widths.Goals as goal

pub returns : goal.returns
returns c = record {
  whole = plan_fits (plan_view c.args.plan.now);
  parts = parts_fit (plan_view c.args.plan.now);
}
