use Rattle.operator_core.specs.LateGhosts.{late}
use Rattle.aggregation.specs.contracts.single.SingleGroupsKernel.TheImpl.{ghosts}
use Rattle.stage_meanings.proofs.GroupLemmas.{groupings-mean, if_made}
use Rattle.stage_meanings.proofs.aggregate_stages.single_of.Goals as goal

pub returns-clause-fresh : goal.returns-clause-fresh
returns-clause-fresh c = if_made c.single_op.result (λ op is. is.fresh) c.single_op.ensures

pub returns-clause-takes : goal.returns-clause-takes
returns-clause-takes c = if_made c.single_op.result (λ op is. is.takes) c.single_op.ensures

pub returns-clause-means : goal.returns-clause-means
returns-clause-means c =
    if_made c.single_op.result
    (λ op is. groupings-mean (late ghosts) op c.args.node c.args.types.items c.args.keys.items c.args.calls.items c.requires.allowed
    (record { gives = λ X Y give. (is.gives X Y).0 give; fails = is.fails; learned = λ s learned. learned }))
    c.single_op.ensures
