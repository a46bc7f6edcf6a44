use Rattle.std.proofs.Common.{drop, map}
use Rattle.sql_exprs.specs.Forms.{form_view}
use Rattle.page_processor.proofs.ProjectLemmas.{SoFar}
use Rattle.page_processor.proofs.project.evaluate_columns.Given as goal

abbrev pub invariant-loop-column : goal.invariant-loop-column
invariant-loop-column l =
    SoFar l.page.types l.page.rows (map form_view l.columns) (map form_view (drop l.column-index l.columns)) l.positions.items l.blocks.items l.failure
