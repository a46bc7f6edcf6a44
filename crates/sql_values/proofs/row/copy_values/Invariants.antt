use Rattle.std.proofs.Common.{◌≡◌, take}
use Rattle.sql_values.proofs.row.copy_values.Given as goal

-- what was copied so far is the beginning of the row
abbrev pub invariant-loop-value : goal.invariant-loop-value
invariant-loop-value l = l.copy.items ≡ take l.value-index l.values
