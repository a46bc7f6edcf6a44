use Rattle.std.proofs.Common.{◌≡◌, ◌+◌, ◌-◌, drop, take}
use Rattle.std.specs.List.{list_all}
use Rattle.sql_functions.specs.Truth.{is_null}
use Rattle.accumulators.proofs.call_states.are_null_cells.Given as goal

abbrev pub invariant-loop-place : goal.invariant-loop-place
invariant-loop-place g l =
    list_all is_null (take l.width (drop l.first (g.C.Cells.values l.cells)))
    ≡ list_all is_null (take (l.first + l.width - l.place) (drop l.place (g.C.Cells.values l.cells)))
