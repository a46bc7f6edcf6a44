use Rattle.std.proofs.Common.{◌≡◌, take}
use Rattle.plan_reader.proofs.copies.copy_rows.Given as goal

abbrev pub invariant-loop-place : goal.invariant-loop-place
invariant-loop-place l = l.copy ≡ take l.place l.rows
