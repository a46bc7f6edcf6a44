use Rattle.std.proofs.Common.{◌≡◌, [], drop}
use Rattle.std.specs.Prelude.{slice_index_or}
use Rattle.plan_types.specs.Cells.{misfit_in}
use Rattle.plan_types.proofs.cells.misfit_in.Given as goal

abbrev pub invariant-loop-column : goal.invariant-loop-column
invariant-loop-column l =
    misfit_in l.types 0 (slice_index_or l.rows l.row []) ≡ misfit_in (drop l.column l.types) l.column (slice_index_or l.rows l.row [])
