use Rattle.std.proofs.Common.{◌≡◌, ◌++◌, map, take, drop}
use Rattle.sql_values.specs.Blocks.{with_cells}
use Rattle.column_moves.proofs.behind.truncate_each.Given as goal

-- the columns so far are cut, the others as they were
abbrev pub invariant-loop-column : goal.invariant-loop-column
invariant-loop-column l = l.column-items ≡ map (λ c. with_cells c (take l.len c.cells)) (take l.column-index l.initial.column-items) ++ drop l.column-index l.initial.column-items
