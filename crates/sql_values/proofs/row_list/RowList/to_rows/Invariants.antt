use Rattle.std.proofs.Common.{◌≡◌, take}
use Rattle.sql_values.proofs.row_list.RowList.to_rows.Given as goal

-- what was copied so far is the beginning of the list
abbrev pub invariant-loop-place : goal.invariant-loop-place
invariant-loop-place l = l.rows.items ≡ take l.place l.self
