use Rattle.std.proofs.Common.{◌≡◌, [], ◌++◌, get_or, take}
use Rattle.aggregation.proofs.table.GroupTable.put_key.Given as goal

-- the first cells of the key were put
abbrev pub invariant-loop-column : goal.invariant-loop-column
invariant-loop-column l = l.rows ≡ record l.initial.rows { begun = l.initial.rows.begun ++ take l.column (get_or l.self.keys l.place []) }
