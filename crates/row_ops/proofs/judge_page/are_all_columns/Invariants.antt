use Rattle.std.proofs.Common.{◌≡◌, map, take}
use Rattle.std.specs.List.{range_with_len}
use Rattle.sql_exprs.specs.Forms.{column, form_view}
use Rattle.row_ops.proofs.judge_page.are_all_columns.Given as goal

abbrev pub invariant-loop-place : goal.invariant-loop-place
invariant-loop-place l = map form_view (take l.place l.columns) ≡ map column (range_with_len 0 l.place)
