use Rattle.std.proofs.Common.{length}
use Rattle.sql_exprs.specs.Forms.{form_view}
use Rattle.plan_trees.specs.Judges.{filter_judge}
use Rattle.tree_evaluator.proofs.JudgeLemmas.{Judging}
use Rattle.tree_evaluator.proofs.judges.filter_rows.Given as goal

abbrev pub invariant-loop-page : goal.invariant-loop-page
invariant-loop-page l = Judging (filter_judge l.fn.rows.types (form_view l.predicate)) l.fn.rows.types l.fn.rows.types l.fn.rows.rows l.rows l.kept

abbrev pub decreases-loop-page : goal.decreases-loop-page
decreases-loop-page l = length l.rows.rows
