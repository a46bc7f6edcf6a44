use Rattle.std.proofs.Common.{length, map}
use Rattle.sql_exprs.specs.Forms.{form_view}
use Rattle.plan_trees.specs.Judges.{project_judge}
use Rattle.tree_evaluator.proofs.JudgeLemmas.{Judging}
use Rattle.tree_evaluator.proofs.judges.project_rows.Given as goal

abbrev pub invariant-loop-page : goal.invariant-loop-page
invariant-loop-page l = Judging (project_judge l.fn.rows.types (map form_view l.columns)) l.fn.rows.types l.types l.fn.rows.rows l.rows l.kept

abbrev pub decreases-loop-page : goal.decreases-loop-page
decreases-loop-page l = length l.rows.rows
