use Rattle.dyn_filter.proofs.DomainLemmas.{one_list}
use Rattle.dyn_filter.proofs.value_list.ValueList.of.Goals as goal

pub invariant_of-result : goal.invariant_of-result
invariant_of-result c = rw (c.in_ok-push.ensures.items, c.new-values.ensures.items) (one_list _)
