use Rattle.std.proofs.Common.{◌≡◌, ◌++◌, length, map, take}
use Rattle.aggregation.specs.Alike.{TellAlike, held_row}
use Rattle.aggregation.specs.Tables.{held_in}
use Rattle.aggregation.proofs.table.GroupTable.merge_rows.Given as goal

-- the first rows were taken
abbrev pub invariant-loop-position : goal.invariant-loop-position
invariant-loop-position l = record {
  same : record l.self { keys = l.initial.self.keys; partials = l.initial.self.partials } ≡ l.initial.self;
  alike : TellAlike (length l.initial.self.columns) l.initial.self.calls (held_in l.self)
      (held_in l.initial.self ++ map (held_row l.initial.self.columns) (take l.position l.page.rows));
}
