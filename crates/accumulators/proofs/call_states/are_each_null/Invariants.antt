use Rattle.std.proofs.Common.{◌≡◌, ◌+◌, ◌*◌, ◌≤◌, drop}
use Rattle.accumulators.specs.Kept.{calls_of}
use Rattle.accumulators.specs.Limits.{are_null}
use Rattle.accumulators.proofs.call_states.are_each_null.Given as goal

-- the columns of the others stand from the place on
abbrev pub invariant-loop-state : goal.invariant-loop-state
invariant-loop-state g l = record {
  near : l.place ≤ l.first + 2 * l.state-index;
  rest : are_null (calls_of l.states) (drop l.first (g.C.Cells.values l.cells))
      ≡ are_null (calls_of (drop l.state-index l.states)) (drop l.place (g.C.Cells.values l.cells));
}
