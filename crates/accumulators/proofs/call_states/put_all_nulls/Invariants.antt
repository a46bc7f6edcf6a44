use Rattle.std.proofs.Common.{◌≡◌, ◌++◌, take}
use Rattle.std.specs.Prelude.{replicate, sum_by}
use Rattle.sql_values.specs.declared.value.Value.TheVariants.{Null}
use Rattle.relation_laws.specs.Partials.{call_width}
use Rattle.accumulators.specs.Kept.{calls_of}
use Rattle.accumulators.proofs.call_states.put_all_nulls.Given as goal

abbrev pub invariant-loop-state : goal.invariant-loop-state
invariant-loop-state l = l.rows ≡ record l.initial.rows { begun = l.initial.rows.begun ++ replicate (sum_by call_width (calls_of (take l.state-index l.states))) Null }
