use Rattle.plan_docs.specs.Plans.{plan_view}
use Rattle.net_laws.proofs.FilterIdLemmas.{scan_ids_rise}
use Rattle.net_laws.proofs.joins.filter_ids_rise.Goals as goal

pub returns : goal.returns
returns c = scan_ids_rise (plan_view c.args.plan.now)
