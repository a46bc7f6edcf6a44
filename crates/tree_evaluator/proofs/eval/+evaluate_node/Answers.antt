use Rattle.std.proofs.Common.{◌≡◌, ◌∙◌, ap, map, subst, sym}
use Rattle.std.specs.Prelude.{MatchResult}
use Rattle.plan_trees.specs.declared.tree.Tree.{Tree}
use Rattle.plan_trees.specs.TreeForms.{TreeForm, join, pair_view, step, step_view, tree_view}
use Rattle.tree_evaluator.specs.Fits.{FitsTables}
use Rattle.tree_evaluator.specs.Stops.{IsEvaluated, StopsFor, rows_of_table}
use Rattle.tree_evaluator.proofs.ViewLemmas.{view_join, view_step}
use Rattle.tree_evaluator.proofs.EvalLemmas.{node_answer}
use Rattle.tree_evaluator.proofs.SortLemmas.{gave_column}
use Rattle.tree_evaluator.proofs.eval.+evaluate_node.Goals as goal

pub join_rows-requires : goal.join_rows-requires
join_rows-requires t c =
    let view : tree_view c.args.tree.now ≡ join c.in-Join.id c.in-Join.kind (map pair_view c.in-Join.on) (tree_view c.deref-in-Join.result.now) (tree_view c.in-Join.right.value) =
    ap tree_view c.in-Join.is ∙ view_join c.in-Join.id c.in-Join.kind c.in-Join.on c.in-Join.left c.in-Join.right
    ∙ ap (λ (i : Tree). join c.in-Join.id c.in-Join.kind (map pair_view c.in-Join.on) (tree_view i) (tree_view c.in-Join.right.value)) (sym c.deref-in-Join.ensures) in
    let fit : FitsTables (join c.in-Join.id c.in-Join.kind (map pair_view c.in-Join.on) (tree_view c.deref-in-Join.result.now) (tree_view c.in-Join.right.value)) (map rows_of_table c.args.tables.now) =
    subst (λ (f : TreeForm). FitsTables f (map rows_of_table c.args.tables.now)) view c.requires in
    gave_column (tree_view c.deref-in-Join.result.now) (map rows_of_table c.args.tables.now) c.in_ok-left-in-Join.left.types fit.0 c.in_ok-left-in-Join.ensures.types

pub over_step-requires-clause-some : goal.over_step-requires-clause-some
over_step-requires-clause-some t c =
    let view : tree_view c.args.tree.now ≡ step c.in-Step.id (step_view c.in-Step.step) (tree_view c.deref-in-Step.result.now) =
    ap tree_view c.in-Step.is ∙ view_step c.in-Step.id c.in-Step.step c.in-Step.input
    ∙ ap (λ (i : Tree). step c.in-Step.id (step_view c.in-Step.step) (tree_view i)) (sym c.deref-in-Step.ensures) in
    let fit : FitsTables (step c.in-Step.id (step_view c.in-Step.step) (tree_view c.deref-in-Step.result.now)) (map rows_of_table c.args.tables.now) =
    subst (λ (f : TreeForm). FitsTables f (map rows_of_table c.args.tables.now)) view c.requires in
    gave_column (tree_view c.deref-in-Step.result.now) (map rows_of_table c.args.tables.now) c.in_ok-rows-in-Step.rows.types fit.1 c.in_ok-rows-in-Step.ensures.types

pub returns-in_ok-rows-in-Step : goal.returns-in_ok-rows-in-Step
returns-in_ok-rows-in-Step t c =
    let view : tree_view c.args.tree.now ≡ step c.in-Step.id (step_view c.in-Step.step) (tree_view c.deref-in-Step.result.now) =
    ap tree_view c.in-Step.is ∙ view_step c.in-Step.id c.in-Step.step c.in-Step.input
    ∙ ap (λ (i : Tree). step c.in-Step.id (step_view c.in-Step.step) (tree_view i)) (sym c.deref-in-Step.ensures) in
    subst (λ (f : TreeForm). MatchResult c.over_step.result (IsEvaluated f (map rows_of_table c.args.tables.now)) (StopsFor f (map rows_of_table c.args.tables.now))) (sym view)
    (node_answer c.in-Step.id (step_view c.in-Step.step) (tree_view c.deref-in-Step.result.now) (map rows_of_table c.args.tables.now) c.in_ok-rows-in-Step.rows
    c.in_ok-rows-in-Step.ensures c.over_step.result c.over_step.ensures)
