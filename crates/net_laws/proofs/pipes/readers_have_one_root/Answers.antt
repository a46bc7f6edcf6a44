use Rattle.plan_docs.specs.Plans.{plan_view}
use Rattle.net_laws.proofs.GivenLemmas.{give_to_readers}
use Rattle.net_laws.proofs.LayoutReadLemmas.{all_read}
use Rattle.net_laws.proofs.pipes.readers_have_one_root.Goals as goal

pub returns : goal.returns
returns c = λ consistent p. give_to_readers p (plan_view c.args.plan.now) (all_read (plan_view c.args.plan.now) consistent p)
