use Rattle.plan_docs.specs.Plans.{plan_view}
use Rattle.plan_spreads.proofs.ReadingLemmas.{halves_read}
use Rattle.plan_spreads.proofs.laws.halves_read_on.Goals as goal

pub returns : goal.returns
returns c = halves_read (plan_view c.args.plan.now).fragments
