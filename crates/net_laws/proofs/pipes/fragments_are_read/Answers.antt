use Rattle.plan_docs.specs.Plans.{plan_view}
use Rattle.net_laws.proofs.LayoutReadLemmas.{all_read, roots_placed}
use Rattle.net_laws.proofs.pipes.fragments_are_read.Goals as goal

pub returns : goal.returns
returns c = record {
  readers = all_read (plan_view c.args.plan.now);
  roots = roots_placed (plan_view c.args.plan.now);
}
