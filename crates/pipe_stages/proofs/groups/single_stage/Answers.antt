use Rattle.std.proofs.Common.{◌++◌, ◌∷◌, [], ℕ, List, map, refl, subst}
use Rattle.sql_values.specs.declared.types.SqlType.{SqlType}
use Rattle.sql_values.specs.declared.relational.Call.{Call}
use Rattle.sql_functions.specs.CallTypes.{type_at}
use Rattle.plan_trees.specs.TreeTypes.{call_kind}
use Rattle.plan_run_laws.specs.Stages.{grouping}
use Rattle.operator_core.specs.LateGhosts.{late}
use Rattle.aggregation.specs.contracts.single.SingleGroupsKernel.TheImpl.{ghosts}
use Rattle.driver_loop.specs.declared.stage.Stage.TheVariants.{Single}
use Rattle.stage_meanings.specs.Meanings.{Means}
use Rattle.stage_meanings.specs.Pipelines.{at_node}
use Rattle.pipe_stages.proofs.StageLemmas.{single_means, stage_is}
use Rattle.pipe_stages.proofs.groups.single_stage.Goals as goal

abbrev given_by : List SqlType → List ℕ → List Call → List SqlType
given_by types keys calls = map (type_at types) keys ++ map (call_kind types) calls

pub returns-clause-is : goal.returns-clause-is
returns-clause-is c =
    let op = c.in_ok-single_of.field-0 in
    let types = c.args.between.now in
    let keys = c.args.keys.now in
    let calls = c.args.calls.now in
    let id = c.args.id in
    let one = subst (λ (ts : List SqlType). Means (late ghosts) op ts (at_node id (grouping ts c.in_ok-keys.keys.items c.in_ok-calls.calls.items) ∷ []) (given_by ts c.in_ok-keys.keys.items c.in_ok-calls.calls.items))
    c.in_ok-types.ensures.items c.in_ok-single_of.ensures.means in
    let two = subst (λ (ks : List ℕ). Means (late ghosts) op types (at_node id (grouping types ks c.in_ok-calls.calls.items) ∷ []) (given_by types ks c.in_ok-calls.calls.items)) c.in_ok-keys.ensures.items one in
    let three = subst (λ (cs : List Call). Means (late ghosts) op types (at_node id (grouping types keys cs) ∷ []) (given_by types keys cs)) c.in_ok-calls.ensures.items two in
    stage_is (at_node id (grouping types keys calls)) types (given_by types keys calls) (Single op) refl
    (single_means op types (given_by types keys calls) (at_node id (grouping types keys calls) ∷ []) three)
