use Rattle.std.proofs.Common.{◌≡◌, drop}
use Rattle.accumulators.specs.Kept.{calls_of, kinds_of}
use Rattle.accumulators.specs.Limits.{takes_row}
use Rattle.accumulators.proofs.call_states.take_row.Given as goal

abbrev pub invariant-loop-state : goal.invariant-loop-state
invariant-loop-state g l =
    takes_row (calls_of l.states) (kinds_of l.states) (g.C.Cells.values l.cells)
    ≡ takes_row (calls_of (drop l.state-index l.states)) (kinds_of (drop l.state-index l.states)) (g.C.Cells.values l.cells)
