use Rattle.std.proofs.Common.{◌≡◌, ◌+◌, ◌*◌, ◌≤◌, ◌++◌, drop}
use Rattle.accumulators.specs.Firsts.{part_firsts}
use Rattle.accumulators.proofs.call_states.firsts_of_part.Given as goal

-- those of the first, then those of the others
abbrev pub invariant-loop-state : goal.invariant-loop-state
invariant-loop-state g l = record {
  near : l.place ≤ l.first + 2 * l.state-index;
  firsts : part_firsts (g.C.Cells.values l.cells) l.first l.states
      ≡ l.firsts.items ++ part_firsts (g.C.Cells.values l.cells) l.place (drop l.state-index l.states);
}
