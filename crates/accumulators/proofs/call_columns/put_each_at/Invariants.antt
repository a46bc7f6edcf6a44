use Rattle.std.proofs.Common.{◌≡◌, ◌++◌, take}
use Rattle.accumulators.specs.Kept.{all_columns}
use Rattle.accumulators.specs.KeptColumns.{all_kept_at}
use Rattle.accumulators.proofs.call_columns.put_each_at.Given as goal

abbrev pub invariant-loop-column : goal.invariant-loop-column
invariant-loop-column l = l.rows ≡ record l.initial.rows { begun = l.initial.rows.begun ++ all_columns (all_kept_at l.place (take l.column-index l.columns)) }
