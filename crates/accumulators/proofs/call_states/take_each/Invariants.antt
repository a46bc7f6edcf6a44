use Rattle.std.proofs.Common.{◌≡◌, ◌++◌, take, drop, map}
use Rattle.std.specs.Prelude.{All}
use Rattle.accumulators.specs.Kept.{added_row, calls_of, kinds_of}
use Rattle.accumulators.specs.Limits.{CanTake, takes_row}
use Rattle.accumulators.proofs.call_states.take_each.Given as goal

-- the first have taken the row, the others are as they were, and decide
abbrev pub invariant-loop-state : goal.invariant-loop-state
invariant-loop-state g l = record {
  added : map (added_row (g.C.Cells.values l.cells)) l.initial.state-items
      ≡ take l.state-index l.state-items ++ map (added_row (g.C.Cells.values l.cells)) (drop l.state-index l.initial.state-items);
  fits : takes_row (calls_of l.initial.state-items) (kinds_of l.initial.state-items) (g.C.Cells.values l.cells)
      ≡ takes_row (calls_of (drop l.state-index l.initial.state-items)) (kinds_of (drop l.state-index l.initial.state-items)) (g.C.Cells.values l.cells);
  calls : calls_of l.state-items ≡ calls_of l.initial.state-items;
  kinds : kinds_of l.state-items ≡ kinds_of l.initial.state-items;
  others : drop l.state-index l.state-items ≡ drop l.state-index l.initial.state-items;
  can : All (CanTake (g.C.Cells.values l.cells)) (drop l.state-index l.initial.state-items);
}
