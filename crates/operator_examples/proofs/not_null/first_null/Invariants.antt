use Rattle.std.proofs.Common.{◌≡◌, take, false}
use Rattle.operator_examples.specs.Samples.{has_null}
use Rattle.operator_examples.proofs.not_null.first_null.Given as goal

abbrev pub invariant-loop-place : goal.invariant-loop-place
invariant-loop-place l = has_null l.column (take l.place l.page.rows) ≡ false
