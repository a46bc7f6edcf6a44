use Rattle.std.proofs.Common.{◌≡◌, ◌++◌, take}
use Rattle.aggregation.proofs.table.put_all.Given as goal

abbrev pub invariant-loop-value : goal.invariant-loop-value
invariant-loop-value l = l.rows ≡ record l.initial.rows { begun = l.initial.rows.begun ++ take l.value-index l.values }
