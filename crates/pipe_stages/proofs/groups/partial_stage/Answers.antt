use Rattle.std.proofs.Common.{◌∷◌, [], ℕ, List, refl, subst}
use Rattle.sql_values.specs.declared.types.SqlType.{SqlType}
use Rattle.sql_values.specs.declared.relational.Call.{Call}
use Rattle.plan_trees.specs.Layouts.{partial_types}
use Rattle.plan_run_laws.specs.Stages.{partial}
use Rattle.operator_core.specs.LateGhosts.{late}
use Rattle.aggregation.specs.contracts.partial.PartialGroupsKernel.TheImpl.{ghosts}
use Rattle.driver_loop.specs.declared.stage.Stage.TheVariants.{Partial}
use Rattle.stage_meanings.specs.Meanings.{Means}
use Rattle.stage_meanings.specs.Pipelines.{at_node}
use Rattle.pipe_stages.proofs.StageLemmas.{partial_means, stage_is}
use Rattle.pipe_stages.proofs.groups.partial_stage.Goals as goal

pub returns-clause-is : goal.returns-clause-is
returns-clause-is c = λ id.
    let op = c.in_ok-partial_of.field-0 in
    let types = c.args.between.now in
    let keys = c.args.keys.now in
    let calls = c.args.calls.now in
    let one = subst (λ (ts : List SqlType). Means (late ghosts) op ts (at_node id (partial c.in_ok-keys.keys.items c.in_ok-calls.calls.items) ∷ []) (partial_types ts c.in_ok-keys.keys.items c.in_ok-calls.calls.items))
    c.in_ok-types.ensures.items (c.in_ok-partial_of.ensures.means id) in
    let two = subst (λ (ks : List ℕ). Means (late ghosts) op types (at_node id (partial ks c.in_ok-calls.calls.items) ∷ []) (partial_types types ks c.in_ok-calls.calls.items)) c.in_ok-keys.ensures.items one in
    let three = subst (λ (cs : List Call). Means (late ghosts) op types (at_node id (partial keys cs) ∷ []) (partial_types types keys cs)) c.in_ok-calls.ensures.items two in
    stage_is (at_node id (partial keys calls)) types (partial_types types keys calls) (Partial op) refl
    (partial_means op types (partial_types types keys calls) (at_node id (partial keys calls) ∷ []) three)
