use Rattle.std.proofs.Common.{◌≡◌, ◌∙◌, ap, map, subst, sym}
use Rattle.sql_exprs.specs.Forms.{form_view}
use Rattle.sql_exprs.specs.Meaning.{kind_of}
use Rattle.plan_trees.specs.Steps.{StepForm, aggregate, filter, project, types_after}
use Rattle.plan_trees.specs.TreeForms.{step_view}
use Rattle.tree_evaluator.proofs.EvalLemmas.{Answers, filter_answer, project_answer}
use Rattle.tree_evaluator.proofs.GroupLemmas.{group_answer}
use Rattle.tree_evaluator.proofs.eval.over_step.Goals as goal

pub returns-in-Filter : goal.returns-in-Filter
returns-in-Filter c =
    let view : step_view c.args.step.now ≡ filter (form_view c.in-Filter.predicate) = ap step_view c.in-Filter.is in
    subst (λ (s : StepForm). Answers c.args.id s c.args.rows c.filter_rows.result) (sym view)
    (filter_answer c.args.id (form_view c.in-Filter.predicate) c.args.rows c.filter_rows.result c.filter_rows.ensures)

pub returns-in_ok-types-in-Project : goal.returns-in_ok-types-in-Project
returns-in_ok-types-in-Project c =
    let view : step_view c.args.step.now ≡ project (map form_view c.as_slice.result.now) =
    ap step_view c.in-Project.is ∙ (λ i. project (map form_view (sym c.as_slice.ensures.value i))) in
    let same : c.as_slice-in-Project.result.now ≡ map (kind_of c.args.rows.types) (map form_view c.as_slice.result.now) =
    c.as_slice-in-Project.ensures ∙ c.in_ok-types-in-Project.ensures ∙ (λ i. types_after (view i) (c.types.ensures i)) in
    subst (λ (s : StepForm). Answers c.args.id s c.args.rows c.project_rows.result) (sym view)
    (project_answer c.args.id (map form_view c.as_slice.result.now) c.args.rows c.as_slice-in-Project.result.now c.project_rows.result same c.project_rows.ensures)

pub returns-in-Aggregate : goal.returns-in-Aggregate
returns-in-Aggregate c =
    let view : step_view c.args.step.now ≡ aggregate c.as_slice-in-Aggregate.result.now c.as_slice-in-Aggregate-2.result.now =
    ap step_view c.in-Aggregate.is ∙ (λ i. aggregate (sym c.as_slice-in-Aggregate.ensures i) (sym c.as_slice-in-Aggregate-2.ensures i)) in
    subst (λ (s : StepForm). Answers c.args.id s c.args.rows c.group_rows.result) (sym view)
    (group_answer c.args.id c.as_slice-in-Aggregate.result.now c.as_slice-in-Aggregate-2.result.now c.args.rows c.group_rows.result c.group_rows.ensures)
