-- Two hops, one behind the other, are one: over an edge through a driver that fetches, say.
use Rattle.std.proofs.Common.{List, ◌++◌, sym, append_assoc}
use Rattle.sql_values.specs.declared.value.Value.{Value}
use Rattle.bag_laws.proofs.BagLemmas.{same-append, same-from_equal, same-refl, same-trans}
use Rattle.plan_run_laws.specs.Stops.{Hop}

pub hop-hop : {A B C : List (List Value)} {IsOver IsBetween HasClosed : Type 0} → Hop A B IsBetween HasClosed → Hop B C IsOver IsBetween → Hop A C IsOver HasClosed
hop-hop {C = C} first second = record {
  left = second.left ++ first.left;
  some = same-trans (same-from_equal (sym (append_assoc C second.left first.left))) (same-trans (same-append second.some (same-refl first.left)) first.some);
  all = λ over. λ i. second.all over i ++ first.all (second.closed over) i;
  closed = λ over. first.closed (second.closed over);
}
