use Rattle.std.proofs.Common.{◌≡◌, ◌++◌}
use Rattle.std.specs.Prelude.{replicate}
use Rattle.sql_values.specs.declared.value.Value.TheVariants.{Null}
use Rattle.accumulators.proofs.call_states.push_nulls.Given as goal

abbrev pub invariant-loop-place : goal.invariant-loop-place
invariant-loop-place l = l.values.items ≡ l.initial.values.items ++ replicate l._place Null
