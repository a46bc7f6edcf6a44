use Rattle.std.proofs.Common.{◌≡◌, take, drop}
use Rattle.std.specs.Vec.Iter.{into_iter_items}
use Rattle.column_moves.specs.Joined.{joined}
use Rattle.column_moves.proofs.behind.append_all.Given as goal

-- the columns so far have the cells of the others before the place
abbrev pub invariant-loop-other : goal.invariant-loop-other
invariant-loop-other l = record {
  columns : l.columns.items ≡ joined l.initial.columns.items (take l.place l.fn.others.items);
  left : drop l.place l.fn.others.items ≡ into_iter_items l.other-iterator;
}
