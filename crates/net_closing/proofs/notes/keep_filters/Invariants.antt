use Rattle.std.proofs.Common.{◌≡◌, ◌++◌, filter, not}
use Rattle.std.specs.Vec.Iter.{into_iter_items}
use Rattle.net_closing.specs.Closing.{publishes}
use Rattle.net_closing.proofs.notes.keep_filters.Given as goal

abbrev pub invariant-loop-note : goal.invariant-loop-note
invariant-loop-note l = record {
  looks : l.fn.looks.items ++ filter (λ n. not (publishes n)) l.fn.filters.items ≡ l.looks.items ++ filter (λ n. not (publishes n)) (into_iter_items l.note-iterator);
  builds : l.fn.builds.items ++ filter publishes l.fn.filters.items ≡ l.builds.items ++ filter publishes (into_iter_items l.note-iterator);
}
