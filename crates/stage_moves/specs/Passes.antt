-- What a pass leaves of a driver: its stages, what they took of its source and gave to its target.
use Rattle.std.specs.Prelude.{◌≡◌, List, map, Bool}
use Rattle.operator_core.specs.declared.operator.Operator.{Ghosts}
use Rattle.operator_core.specs.Rows.{Row}
use Rattle.operator_core.specs.Stages.{Linked, ToldInTurn}
use Rattle.stage_moves.specs.Places.{AllStay}

-- stages that took X and gave Y, in turn behind a source that is ended or not, took A and gave B now, in
-- turn behind it as it is now
pub record Passed {S : Type 0} (g : Ghosts S) (old new : List S) (X A Y B : List Row) (was is : Bool) : Type 0 where
  pub links : Linked g old X Y → Linked g new A B
  pub turns : ToldInTurn g was old → ToldInTurn g is new
  pub made : map g.as_made new ≡ map g.as_made old
  pub same : AllStay g old new
