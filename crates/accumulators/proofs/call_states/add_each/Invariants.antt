use Rattle.std.proofs.Common.{◌≡◌, ◌++◌, take, drop, map}
use Rattle.std.specs.Prelude.{All}
use Rattle.accumulators.specs.Firsts.{row_firsts}
use Rattle.accumulators.specs.Kept.{added_row}
use Rattle.accumulators.specs.Limits.{CanAdd}
use Rattle.accumulators.proofs.call_states.add_each.Given as goal

-- the first have taken the row, the others are as they were and can take it, with the copies that are left
abbrev pub invariant-loop-state : goal.invariant-loop-state
invariant-loop-state g l = record {
  added : map (added_row (g.C.Cells.values l.cells)) l.initial.state-items
      ≡ take l.state-index l.state-items ++ map (added_row (g.C.Cells.values l.cells)) (drop l.state-index l.initial.state-items);
  others : drop l.state-index l.state-items ≡ drop l.state-index l.initial.state-items;
  can : All (CanAdd (g.C.Cells.values l.cells)) (drop l.state-index l.initial.state-items);
  firsts : l.left.items ≡ row_firsts (g.C.Cells.values l.cells) (drop l.state-index l.initial.state-items);
}
