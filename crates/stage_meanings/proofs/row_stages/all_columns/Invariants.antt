use Rattle.std.proofs.Common.{◌≡◌, map}
use Rattle.std.specs.List.{range_with_len}
use Rattle.sql_exprs.specs.Forms.{column, form_view}
use Rattle.stage_meanings.proofs.row_stages.all_columns.Given as goal

abbrev pub invariant-loop-place : goal.invariant-loop-place
invariant-loop-place l = map form_view l.columns.items ≡ map column (range_with_len 0 l.place)
