use Rattle.plan_docs.specs.Plans.{plan_view}
use Rattle.net_laws.proofs.ResultLemmas.{one_result}
use Rattle.net_laws.proofs.pipes.results_have_one_driver.Goals as goal

pub returns : goal.returns
returns c = one_result (plan_view c.args.plan.now)
