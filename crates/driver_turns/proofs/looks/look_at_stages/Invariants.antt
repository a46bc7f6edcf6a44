use Rattle.std.proofs.Common.{◌≡◌, ℕ, List, Bool, length}
use Rattle.operator_core.specs.Rows.{Row}
use Rattle.stage_moves.specs.Counts.{Counted}
use Rattle.driver_turns.specs.Turns.{WentOn}
use Rattle.driver_turns.proofs.looks.look_at_stages.Given as goal

abbrev pub invariant-loop-place : goal.invariant-loop-place
invariant-loop-place g l = record {
  end : l.place-end ≡ length l.stages.items;
  went : (X Y : List Row) (ended : Bool) → WentOn g.S.Operator l.fn.stages.items l.stages.items X X Y Y ended ended;
  counts : (X Y : List Row) → Counted g.S.Operator l.fn.stages.items l.stages.items X X Y Y 0;
  bells : (bell count : ℕ) → g.B.Bells.shown l.fn.bells bell count → g.B.Bells.shown l.bells bell count;
  rang : (bell times : ℕ) → g.B.Bells.rang l.fn.bells bell times → g.B.Bells.rang l.bells bell times;
}
