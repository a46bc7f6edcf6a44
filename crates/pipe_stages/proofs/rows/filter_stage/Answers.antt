use Rattle.std.proofs.Common.{◌∷◌, [], List, refl, subst}
use Rattle.sql_values.specs.declared.types.SqlType.{SqlType}
use Rattle.sql_exprs.specs.Forms.{Form, form_view}
use Rattle.plan_run_laws.specs.Stages.{filter}
use Rattle.row_ops.specs.contracts.filter_project.FilterProjectOperator.TheImpl.{ghosts}
use Rattle.driver_loop.specs.declared.stage.Stage.TheVariants.{Filter}
use Rattle.stage_meanings.specs.Meanings.{Means}
use Rattle.stage_meanings.specs.Pipelines.{at_node}
use Rattle.pipe_stages.proofs.StageLemmas.{filter_means, stage_is}
use Rattle.pipe_stages.proofs.rows.filter_stage.Goals as goal

pub returns-clause-is : goal.returns-clause-is
returns-clause-is c =
    let op = c.in_ok-filter_of.field-0 in
    let between = c.args.between.now in
    let at = λ (f : Form). at_node c.args.id (filter between f) ∷ [] in
    let form = form_view c.args.predicate.now in
    let own = subst (λ (ts : List SqlType). Means ghosts op ts (at_node c.args.id (filter ts (form_view c.in_ok-predicate.predicate)) ∷ []) ts) c.in_ok-types.ensures.items c.in_ok-filter_of.ensures.means in
    stage_is (at_node c.args.id (filter between form)) between between (Filter op) refl
    (filter_means op between between (at form) (subst (λ (f : Form). Means ghosts op between (at f) between) c.in_ok-predicate.ensures own))
