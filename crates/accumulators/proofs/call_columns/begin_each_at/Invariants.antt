use Rattle.std.proofs.Common.{◌≡◌, ◌++◌, take, drop, map}
use Rattle.std.specs.Prelude.{All}
use Rattle.accumulators.specs.KeptColumns.{IsLong, begun_behind, first_kept}
use Rattle.accumulators.proofs.call_columns.begin_each_at.Given as goal

-- the first have a new group, the others are as they were
abbrev pub invariant-loop-column : goal.invariant-loop-column
invariant-loop-column l = record {
  begun : map (begun_behind l.place) l.initial.column-items
      ≡ take l.column-index l.column-items ++ map (begun_behind l.place) (drop l.column-index l.initial.column-items);
  first : map (first_kept l.place) l.column-items ≡ map (first_kept l.place) l.initial.column-items;
  others : drop l.column-index l.column-items ≡ drop l.column-index l.initial.column-items;
  long : All (IsLong l.place) (drop l.column-index l.initial.column-items);
}
