use Rattle.std.proofs.Common.{◌∷◌, [], List, map, refl, subst}
use Rattle.sql_values.specs.declared.types.SqlType.{SqlType}
use Rattle.sql_exprs.specs.Forms.{Form, form_view}
use Rattle.sql_exprs.specs.Meaning.{kind_of}
use Rattle.plan_run_laws.specs.Stages.{project}
use Rattle.row_ops.specs.contracts.filter_project.FilterProjectOperator.TheImpl.{ghosts}
use Rattle.driver_loop.specs.declared.stage.Stage.TheVariants.{Filter}
use Rattle.stage_meanings.specs.Meanings.{Means}
use Rattle.stage_meanings.specs.Pipelines.{at_node}
use Rattle.pipe_stages.proofs.StageLemmas.{filter_means, stage_is}
use Rattle.pipe_stages.proofs.rows.project_stage.Goals as goal

pub returns-clause-is : goal.returns-clause-is
returns-clause-is c =
    let op = c.project_of.result in
    let between = c.args.between.now in
    let forms = map form_view c.args.columns.now in
    let own = subst (λ (ts : List SqlType). Means ghosts op ts (at_node c.args.id (project ts (map form_view c.in_ok-columns.columns.items)) ∷ []) (map (kind_of ts) (map form_view c.in_ok-columns.columns.items)))
    c.in_ok-types.ensures.items c.project_of.ensures.means in
    stage_is (at_node c.args.id (project between forms)) between (map (kind_of between) forms) (Filter op) refl
    (filter_means op between (map (kind_of between) forms) (at_node c.args.id (project between forms) ∷ [])
    (subst (λ (fs : List Form). Means ghosts op between (at_node c.args.id (project between fs) ∷ []) (map (kind_of between) fs)) c.in_ok-columns.ensures own))
