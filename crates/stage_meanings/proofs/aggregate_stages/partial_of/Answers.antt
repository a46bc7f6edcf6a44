use Rattle.operator_core.specs.LateGhosts.{late}
use Rattle.aggregation.specs.contracts.partial.PartialGroupsKernel.TheImpl.{ghosts}
use Rattle.bag_laws.specs.Pieces.{partials_of}
use Rattle.bag_laws.proofs.BagLemmas.{same_from_bag}
use Rattle.stage_meanings.proofs.GroupLemmas.{if_made, partials-mean}
use Rattle.stage_meanings.proofs.aggregate_stages.partial_of.Goals as goal

pub returns-clause-fresh : goal.returns-clause-fresh
returns-clause-fresh c = if_made c.partial_op.result (λ op is. is.fresh) c.partial_op.ensures

pub returns-clause-takes : goal.returns-clause-takes
returns-clause-takes c = if_made c.partial_op.result (λ op is. is.takes) c.partial_op.ensures

pub returns-clause-means : goal.returns-clause-means
returns-clause-means c =
    if_made c.partial_op.result
    (λ op is node. partials-mean (late ghosts) op node c.args.types.items c.args.keys.items c.args.calls.items
    (record { makes = λ mode X Y give. same_from_bag (partials_of c.args.keys.items c.args.calls.items X) Y ((is.gives X Y).0 give); calm = λ X n kind failed. (is.fails X n kind).0 failed }))
    c.partial_op.ensures
