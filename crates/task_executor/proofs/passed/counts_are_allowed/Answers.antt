use Rattle.plan_docs.specs.Plans.{plan_view}
use Rattle.task_executor.proofs.PassedLemmas.{counts_hold}
use Rattle.task_executor.proofs.passed.counts_are_allowed.Goals as goal

pub returns : goal.returns
returns c = λ tables net is few counts passed.
    counts_hold tables (plan_view c.args.plan.now) net c.filters_are_counted.ensures c.filters_have_places.ensures is few counts passed
