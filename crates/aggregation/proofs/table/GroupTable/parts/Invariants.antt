use Rattle.std.proofs.Common.{[], take}
use Rattle.aggregation.specs.Giving.{parts_with}
use Rattle.aggregation.specs.Tables.{AreResults}
use Rattle.aggregation.proofs.table.GroupTable.parts.Given as goal

-- the rows of the first groups
abbrev pub invariant-loop-place : goal.invariant-loop-place
invariant-loop-place l = AreResults l.kinds (take l.place (parts_with l.self [])) l.rows
