use Rattle.std.proofs.Common.{◌≡◌, ◌++◌, length}
use Rattle.col_pages.specs.Pages.{rows_in}
use Rattle.task_executor.proofs.result.rows_of.Given as goal

-- the rows of the pages that were moved, and then the others
abbrev pub invariant-loop-page : goal.invariant-loop-page
invariant-loop-page l = rows_in l.pages.items ++ l.held ≡ l.fn.held

abbrev pub decreases-loop-page : goal.decreases-loop-page
decreases-loop-page l = length l.held
