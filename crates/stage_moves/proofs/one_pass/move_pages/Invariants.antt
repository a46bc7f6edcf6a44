use Rattle.std.proofs.Common.{◌≡◌, ◌+◌, ◌<◌, List, length}
use Rattle.col_pages.specs.Pages.{most_rows}
use Rattle.operator_core.specs.Rows.{Row}
use Rattle.stage_moves.specs.Counts.{Counted}
use Rattle.stage_moves.specs.Passes.{Passed}
use Rattle.stage_moves.specs.Quiet.{AreStill}
use Rattle.stage_moves.proofs.one_pass.move_pages.Given as goal

abbrev pub invariant-loop-place : goal.invariant-loop-place
invariant-loop-place g l = ((X Y : List Row) → Passed g.S.Operator l.fn.stages.items l.stages.items X X Y Y l.ended l.ended)
    × (l.ended ≡ l.fn.ended) × (l.room ≡ l.fn.room) × (l.place-end ≡ length l.stages.items) × (l.moved < l.room + most_rows)
    × ((X Y : List Row) → Counted g.S.Operator l.fn.stages.items l.stages.items X X Y Y l.moved)
    × (0 < l.room → l.moved ≡ 0 → AreStill g.S.Operator l.place l.stages.items)
