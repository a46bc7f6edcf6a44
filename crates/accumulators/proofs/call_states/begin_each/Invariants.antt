use Rattle.std.proofs.Common.{◌≡◌, ◌+◌, ◌*◌, ◌≤◌, drop}
use Rattle.accumulators.specs.Kept.{calls_of, kinds_of}
use Rattle.accumulators.specs.Limits.{are_all_columns}
use Rattle.accumulators.proofs.call_states.begin_each.Given as goal

-- the columns of the others stand from the place on
abbrev pub invariant-loop-state : goal.invariant-loop-state
invariant-loop-state g l = record {
  near : l.place ≤ l.first + 2 * l.state-index;
  rest : are_all_columns l.rows (calls_of l.states) (kinds_of l.states) (drop l.first (g.C.Cells.values l.cells))
      ≡ are_all_columns l.rows (calls_of (drop l.state-index l.states)) (kinds_of (drop l.state-index l.states)) (drop l.place (g.C.Cells.values l.cells));
}
