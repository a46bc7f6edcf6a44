use Rattle.operator_core.specs.LateGhosts.{late}
use Rattle.aggregation.specs.contracts.final_agg.FinalGroupsKernel.TheImpl.{ghosts}
use Rattle.stage_meanings.proofs.GroupLemmas.{finals-mean, if_made}
use Rattle.stage_meanings.proofs.aggregate_stages.final_of.Goals as goal

pub returns-clause-fresh : goal.returns-clause-fresh
returns-clause-fresh c = if_made c.final_op.result (λ op is. is.fresh) c.final_op.ensures.late

pub returns-clause-takes : goal.returns-clause-takes
returns-clause-takes c = if_made c.final_op.result (λ op is. is.takes) c.final_op.ensures.late

pub returns-clause-means : goal.returns-clause-means
returns-clause-means c =
    if_made c.final_op.result
    (λ op is. finals-mean (late ghosts) op c.args.node c.args.kinds.items c.args.types.items c.args.calls.items c.requires.allowed
    (record { gives = λ X Y give. (is.gives X Y).0 give; fails = is.fails; learned = λ s learned. learned }))
    c.final_op.ensures.late
