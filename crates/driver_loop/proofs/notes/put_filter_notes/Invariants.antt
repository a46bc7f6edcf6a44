use Rattle.std.proofs.Common.{◌≡◌, ◌+◌, ◌≤◌, ◌++◌, length, map}
use Rattle.std.specs.Vec.{vec_capacity}
use Rattle.std.specs.Vec.Iter.{into_iter_items}
use Rattle.driver_loop.specs.Turns.{note_of_build_filter}
use Rattle.driver_loop.proofs.notes.put_filter_notes.Given as goal

-- the notes so far, with those of the filters that are left, are all of them, and there is room for these
abbrev pub invariant-loop-filter : goal.invariant-loop-filter
invariant-loop-filter l = record {
  room : length l.fn.list.items + length l.fn.filters.items ≤ vec_capacity l.fn.list
      → length l.list.items + length (into_iter_items l.filter-iterator) ≤ vec_capacity l.list;
  notes : length l.fn.list.items + length l.fn.filters.items ≤ vec_capacity l.fn.list
      → l.list.items ++ map note_of_build_filter (into_iter_items l.filter-iterator) ≡ l.fn.list.items ++ map note_of_build_filter l.fn.filters.items;
}
