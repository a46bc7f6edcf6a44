use Rattle.std.proofs.Common.{◌∷◌, [], List, refl, subst}
use Rattle.sql_values.specs.declared.order.KeySpec.{KeySpec}
use Rattle.driver_loop.specs.contracts.stage.StageOperator.TheImpl.{ghosts}
use Rattle.driver_loop.specs.declared.stage.Stage.TheVariants.{Sort}
use Rattle.plan_trees.specs.Steps.{sort}
use Rattle.plan_run_laws.specs.Stages.{does}
use Rattle.stage_meanings.specs.Meanings.{Means}
use Rattle.stage_meanings.specs.Pipelines.{at_node}
use Rattle.pipe_stages.proofs.StageLemmas.{orders_means, stage_is}
use Rattle.pipe_stages.proofs.orders.sort_stage.Goals as goal

pub returns-clause-is : goal.returns-clause-is
returns-clause-is c = λ id.
    let made = Sort c.in_ok-sort_op.field-0 in
    let between = c.args.between.now in
    stage_is (at_node id (does between (sort c.args.keys.now))) between between made refl
    (subst (λ (ks : List KeySpec). Means ghosts made between (at_node id (does between (sort ks)) ∷ []) between) c.in_ok-keys.ensures.items
    (orders_means made id between (sort c.in_ok-keys.keys.items) tt (λ mode X B gives. (c.in_ok-sort_op.ensures.gives X B).0 gives) (λ X node kind failed. (c.in_ok-sort_op.ensures.fails X node kind).0 failed)))
