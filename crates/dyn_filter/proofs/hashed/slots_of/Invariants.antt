use Rattle.dyn_filter.proofs.HashedLemmas.{AreSlotsTo}
use Rattle.dyn_filter.proofs.hashed.slots_of.Given as goal

abbrev pub invariant-loop-value : goal.invariant-loop-value
invariant-loop-value l = AreSlotsTo l.list l.value-index l.slots.items l.next
