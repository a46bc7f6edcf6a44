use Rattle.plan_docs.specs.Plans.{plan_view}
use Rattle.net_laws.proofs.LayoutReadLemmas.{runs_in_pipes}
use Rattle.net_laws.proofs.pipes.pipes_run_plans.Goals as goal

pub returns : goal.returns
returns c = runs_in_pipes (plan_view c.args.plan.now)
