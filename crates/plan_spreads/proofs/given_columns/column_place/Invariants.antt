use Rattle.std.proofs.Common.{◌≡◌, drop, map}
use Rattle.std.specs.List.{position_from}
use Rattle.sql_exprs.specs.Forms.{form_view}
use Rattle.plan_spreads.specs.Columns.{is_column}
use Rattle.plan_spreads.proofs.given_columns.column_place.Given as goal

abbrev pub invariant-loop-i : goal.invariant-loop-i
invariant-loop-i l =
    position_from (is_column l.column) 0 (map form_view l.exprs)
    ≡ position_from (is_column l.column) l.i (map form_view (drop l.i l.exprs))
