use Rattle.std.proofs.Common.{◌≡◌, ◌+◌, ◌*◌, ◌≤◌, ◌++◌, take, drop}
use Rattle.accumulators.specs.Firsts.{part_firsts}
use Rattle.accumulators.specs.Kept.{merged_each}
use Rattle.accumulators.specs.Limits.{CanMergeEach}
use Rattle.accumulators.proofs.call_states.merge_each.Given as goal

-- the first have taken their columns, the others are as they were and can take those from the place on, with the copies that are left
abbrev pub invariant-loop-state : goal.invariant-loop-state
invariant-loop-state g l = record {
  near : l.place ≤ l.first + 2 * l.state-index;
  merged : merged_each l.initial.state-items (drop l.first (g.C.Cells.values l.cells))
      ≡ take l.state-index l.state-items ++ merged_each (drop l.state-index l.initial.state-items) (drop l.place (g.C.Cells.values l.cells));
  others : drop l.state-index l.state-items ≡ drop l.state-index l.initial.state-items;
  can : CanMergeEach (drop l.state-index l.initial.state-items) (drop l.place (g.C.Cells.values l.cells));
  firsts : l.left.items ≡ part_firsts (g.C.Cells.values l.cells) l.place (drop l.state-index l.initial.state-items);
}
