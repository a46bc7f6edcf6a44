use Rattle.std.proofs.Common.{◌≡◌, take}
use Rattle.accumulators.specs.Firsts.{row_firsts}
use Rattle.accumulators.proofs.call_states.firsts_of_row.Given as goal

abbrev pub invariant-loop-state : goal.invariant-loop-state
invariant-loop-state g l = l.firsts.items ≡ row_firsts (g.C.Cells.values l.cells) (take l.state-index l.states)
