use Rattle.std.proofs.Common.{◌≡◌, ◌-◌, map, take, drop}
use Rattle.sql_values.specs.Cells.{cell}
use Rattle.sql_values.proofs.row_list.RowList.gather.Given as goal

-- the cells of the rows so far
abbrev pub invariant-loop-place : goal.invariant-loop-place
invariant-loop-place l = l.block ≡ record { kind = l.fn.kind; cells = map (λ row. cell row l.column) (take (l.place - l.low) (drop l.low l.self)) }
