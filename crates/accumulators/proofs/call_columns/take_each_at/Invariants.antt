use Rattle.std.proofs.Common.{◌≡◌, ◌++◌, take, drop, map}
use Rattle.std.specs.Prelude.{All}
use Rattle.accumulators.specs.KeptColumns.{CanTakeAt, added_at, but_kept, column_calls, column_kinds}
use Rattle.accumulators.specs.Limits.{takes_row}
use Rattle.accumulators.proofs.call_columns.take_each_at.Given as goal

-- the first have taken the row, the others are as they were, and decide
abbrev pub invariant-loop-column : goal.invariant-loop-column
invariant-loop-column g l = record {
  added : map (added_at l.place (g.C.Cells.values l.cells)) l.initial.column-items
      ≡ take l.column-index l.column-items ++ map (added_at l.place (g.C.Cells.values l.cells)) (drop l.column-index l.initial.column-items);
  fits : takes_row (column_calls l.initial.column-items) (column_kinds l.initial.column-items) (g.C.Cells.values l.cells)
      ≡ takes_row (column_calls (drop l.column-index l.initial.column-items)) (column_kinds (drop l.column-index l.initial.column-items)) (g.C.Cells.values l.cells);
  kept : map (but_kept l.place) l.column-items ≡ map (but_kept l.place) l.initial.column-items;
  others : drop l.column-index l.column-items ≡ drop l.column-index l.initial.column-items;
  can : All (CanTakeAt l.place (g.C.Cells.values l.cells)) (drop l.column-index l.initial.column-items);
}
