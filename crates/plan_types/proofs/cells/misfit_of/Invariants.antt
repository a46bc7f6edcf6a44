use Rattle.std.proofs.Common.{◌≡◌, drop}
use Rattle.plan_types.specs.Cells.{misfit_from}
use Rattle.plan_types.proofs.cells.misfit_of.Given as goal

abbrev pub invariant-loop-row : goal.invariant-loop-row
invariant-loop-row l = misfit_from l.types 0 l.rows ≡ misfit_from l.types l.row (drop l.row l.rows)
