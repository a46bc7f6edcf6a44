use Rattle.std.proofs.Common.{◌≡◌, ◌++◌}
use Rattle.std.specs.Prelude.{replicate}
use Rattle.sql_values.specs.declared.value.Value.TheVariants.{Null}
use Rattle.accumulators.proofs.puts.put_nulls.Given as goal

abbrev pub invariant-loop-place : goal.invariant-loop-place
invariant-loop-place l = l.rows ≡ record l.initial.rows { begun = l.initial.rows.begun ++ replicate l._place Null }
