use Rattle.std.proofs.Common.{◌∙◌, List, ap}
use Rattle.std.proofs.lemmas.Result.{err_from_is_err_and}
use Rattle.sql_exprs.specs.Forms.{form_view}
use Rattle.sql_values.specs.declared.types.SqlType.{SqlType}
use Rattle.plan_trees.specs.Judges.{filter_judge}
use Rattle.page_processor.specs.Judged.{first_failure, judged}
use Rattle.tree_evaluator.proofs.JudgeLemmas.{judging_goes_on, judging_stops, stops_whole}
use Rattle.tree_evaluator.proofs.judges.filter_rows.Goals as goal

-- the page was judged as one of the node's types
pub loop-page-preserved : goal.loop-page-preserved
loop-page-preserved c =
    judging_goes_on (filter_judge c.args.rows.types (form_view c.args.predicate.now)) c.args.rows.types c.args.rows.types c.args.rows.rows
    c.loop-page.rows c.take_first.new.self c.loop-page.kept c.keep.new.kept c.in-Some.page c.in_ok-judged.judged
    c.loop-page.invariant c.in-Some.ensures.rows c.in-Some.ensures.types
    (c.in_ok-judged.ensures.judged
    ∙ ap (λ (ts : List SqlType). judged (filter_judge ts (form_view c.args.predicate.now)) ts c.in-Some.page.rows) (c.in-Some.ensures.page.0 ∙ c.loop-page.invariant.left_types))
    c.in_ok-keep.ensures.0 c.in_ok-keep.ensures.1

pub returns-in_err-keep : goal.returns-in_err-keep
returns-in_err-keep c =
    let p = err_from_is_err_and c.from_residual-in_err-keep.result c.from_residual-in_err-keep.ensures.1 in
    rw (p.1, p.2)
    (stops_whole c.args.id c.in_ok-judged.judged.failure (first_failure (filter_judge c.args.rows.types (form_view c.args.predicate.now)) c.args.rows.rows) c.in_err-keep.field-0.0 c.in_err-keep.ensures
    (λ kind f. judging_stops (filter_judge c.args.rows.types (form_view c.args.predicate.now)) c.args.rows.types c.args.rows.types c.args.rows.rows c.loop-page.rows c.loop-page.kept c.in-Some.page c.take_first.new.self.rows
    c.in_ok-judged.judged kind c.loop-page.invariant c.in-Some.ensures.rows
    (c.in_ok-judged.ensures.judged
    ∙ ap (λ (ts : List SqlType). judged (filter_judge ts (form_view c.args.predicate.now)) ts c.in-Some.page.rows) (c.in-Some.ensures.page.0 ∙ c.loop-page.invariant.left_types)) f))
