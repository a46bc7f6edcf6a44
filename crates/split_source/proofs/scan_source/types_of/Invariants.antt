use Rattle.std.proofs.Common.{◌≡◌, take}
use Rattle.split_source.specs.Scans.{types_at}
use Rattle.split_source.proofs.scan_source.types_of.Given as goal

abbrev pub invariant-loop-column : goal.invariant-loop-column
invariant-loop-column l = l.types.items ≡ types_at l.table.columns (take l.column-index l.columns)
