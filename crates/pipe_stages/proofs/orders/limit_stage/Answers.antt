use Rattle.std.proofs.Common.{refl}
use Rattle.driver_loop.specs.declared.stage.Stage.TheVariants.{Limit}
use Rattle.plan_trees.specs.Steps.{limit}
use Rattle.plan_run_laws.specs.Stages.{does}
use Rattle.stage_meanings.specs.Pipelines.{at_node}
use Rattle.pipe_stages.proofs.StageLemmas.{orders_means, stage_is}
use Rattle.pipe_stages.proofs.orders.limit_stage.Goals as goal

pub returns-clause-is : goal.returns-clause-is
returns-clause-is c = λ id.
    let made = Limit c.new.result c.of-types.result in
    let between = c.args.between.now in
    stage_is (at_node id (does between (limit c.args.count))) between between made refl
    (orders_means made id between (limit c.args.count) tt (λ mode X B gives. (c.new.ensures.gives X B).0 gives) c.new.ensures.fails)
