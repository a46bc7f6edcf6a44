-- The rows that a pass gives out.
use Rattle.std.specs.Prelude.{List}
use Rattle.operator_core.specs.Answers.{gave}
use Rattle.operator_core.specs.Rows.{Row}
use Rattle.stage_moves.specs.declared.one_pass.Passing.{Passing}

-- the rows for the target
abbrev pub rows_out : Passing → List Row
rows_out p = gave p.outcome
