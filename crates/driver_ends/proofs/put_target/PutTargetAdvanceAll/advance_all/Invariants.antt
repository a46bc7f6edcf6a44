use Rattle.std.proofs.Common.{◌≡◌, ℕ, ◌+◌, ◌≤◌, drop, map}
use Rattle.std.specs.Prelude.{All}
use Rattle.driver_ends.specs.Outlets.{OutletInOrder, outlet_kept}
use Rattle.driver_ends.specs.Targets.{dues_of, fulls_of}
use Rattle.driver_ends.proofs.WaitLemmas.{TriedTo, WaitsSo}
use Rattle.driver_ends.proofs.put_target.PutTargetAdvanceAll.advance_all.Given as goal

-- the outlets so far went on, and the others are as they were
abbrev pub invariant-loop-place : goal.invariant-loop-place
invariant-loop-place g l = record {
  kept : map (outlet_kept l.is_told) l.outlets ≡ map (outlet_kept l.is_told) l.initial.outlets;
  order : All OutletInOrder l.outlets;
  fulls : fulls_of l.initial.outlets ≤ fulls_of l.outlets;
  tried : TriedTo l.is_told l.place l.initial.outlets l.outlets;
  waits : WaitsSo l.is_told l.place l.initial.outlets l.outlets (g.B.Bells.shown l.bells) l.first;
  rest : drop l.place l.outlets ≡ drop l.place l.initial.outlets;
  shown : (bell count : ℕ) → g.B.Bells.shown l.initial.bells bell count → g.B.Bells.shown l.bells bell count;
  rang : (bell times : ℕ) → g.B.Bells.rang l.initial.bells bell (times + dues_of l.initial.outlets bell) → g.B.Bells.rang l.bells bell (times + dues_of l.outlets bell);
}
