use Rattle.std.proofs.Common.{◌≡◌, take, map}
use Rattle.accumulators.specs.KeptColumns.{no_kept}
use Rattle.accumulators.proofs.call_columns.no_columns.Given as goal

abbrev pub invariant-loop-call : goal.invariant-loop-call
invariant-loop-call l = l.columns.items ≡ map (no_kept l.types) (take l.call-index l.calls)
