use Rattle.std.proofs.Common.{◌≡◌, ◌+◌, ◌*◌, ◌≤◌, ◌++◌, take, drop, map}
use Rattle.accumulators.specs.KeptColumns.{CanMergeEachAt, but_kept, merged_each_at}
use Rattle.accumulators.proofs.call_columns.merge_each_at.Given as goal

-- the first have taken their columns, the others are as they were and can take those from the place on
abbrev pub invariant-loop-column : goal.invariant-loop-column
invariant-loop-column g l = record {
  near : l.from ≤ l.first + 2 * l.column-index;
  merged : merged_each_at l.place l.initial.column-items (drop l.first (g.C.Cells.values l.cells))
      ≡ take l.column-index l.column-items ++ merged_each_at l.place (drop l.column-index l.initial.column-items) (drop l.from (g.C.Cells.values l.cells));
  kept : map (but_kept l.place) l.column-items ≡ map (but_kept l.place) l.initial.column-items;
  others : drop l.column-index l.column-items ≡ drop l.column-index l.initial.column-items;
  can : CanMergeEachAt l.place (drop l.column-index l.initial.column-items) (drop l.from (g.C.Cells.values l.cells));
}
