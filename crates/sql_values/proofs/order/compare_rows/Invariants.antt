use Rattle.std.proofs.Common.{◌≡◌, drop}
use Rattle.sql_values.specs.Order.{row_cmp}
use Rattle.sql_values.proofs.order.compare_rows.Given as goal

-- the keys so far do not tell the rows apart
abbrev pub invariant-loop-key : goal.invariant-loop-key
invariant-loop-key l = row_cmp l.keys l.a l.b ≡ row_cmp (drop l.key-index l.keys) l.a l.b
