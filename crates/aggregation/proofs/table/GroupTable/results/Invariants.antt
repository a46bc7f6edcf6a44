use Rattle.std.proofs.Common.{take}
use Rattle.aggregation.specs.Tables.{AreResults, verdicts_of}
use Rattle.aggregation.proofs.table.GroupTable.results.Given as goal

-- the rows of the first groups
abbrev pub invariant-loop-place : goal.invariant-loop-place
invariant-loop-place l = AreResults l.kinds (take l.place (verdicts_of l.self)) l.rows
