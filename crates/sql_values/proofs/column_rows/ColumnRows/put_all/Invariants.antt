use Rattle.std.proofs.Common.{◌≡◌, [], take, drop}
use Rattle.sql_values.specs.ColumnRows.{fits_row}
use Rattle.sql_values.proofs.column_rows.ColumnRows.put_all.Given as goal

-- what was put so far is the beginning of the row, and the rest decides whether it fits
abbrev pub invariant-loop-value : goal.invariant-loop-value
invariant-loop-value l = record {
  kept : record l.self { begun = [] } ≡ l.initial.self;
  begun : l.self.begun ≡ take l.value-index l.values;
  fits : fits_row l.initial.self.types l.values ≡ fits_row (drop l.value-index l.initial.self.types) (drop l.value-index l.values);
}
