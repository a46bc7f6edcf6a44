use Rattle.std.proofs.Common.{◌++◌, ◌∷◌, [], ℕ, List, length, map, refl, subst}
use Rattle.std.proofs.lemmas.List.{length-map}
use Rattle.sql_values.specs.declared.types.SqlType.{SqlType}
use Rattle.sql_values.specs.declared.relational.Call.{Call}
use Rattle.sql_functions.specs.CallTypes.{type_at}
use Rattle.plan_trees.specs.Layouts.{layout_types}
use Rattle.plan_trees.specs.TreeTypes.{call_kind}
use Rattle.plan_run_laws.specs.Stages.{final}
use Rattle.operator_core.specs.LateGhosts.{late}
use Rattle.aggregation.specs.contracts.final_agg.FinalGroupsKernel.TheImpl.{ghosts}
use Rattle.driver_loop.specs.declared.stage.Stage.TheVariants.{Final}
use Rattle.stage_meanings.specs.Meanings.{Means}
use Rattle.stage_meanings.specs.Pipelines.{at_node}
use Rattle.pipe_stages.proofs.StageLemmas.{final_means, stage_is}
use Rattle.pipe_stages.proofs.groups.final_stage.Goals as goal

pub returns-clause-is : goal.returns-clause-is
returns-clause-is c =
    let op = c.in_ok-final_of.field-0 in
    let types = c.args.halved.now in
    let keys = c.args.keys.now in
    let kinds = map (type_at types) keys in
    let calls = c.args.calls.now in
    let id = c.args.id in
    let at = λ (n : ℕ). at_node id (final types n calls) ∷ [] in
    let one = subst (λ (ts : List SqlType). Means (late ghosts) op (layout_types c.in_ok-kinds.kinds.items ts c.in_ok-calls.calls.items)
    (at_node id (final ts (length c.in_ok-kinds.kinds.items) c.in_ok-calls.calls.items) ∷ []) (c.in_ok-kinds.kinds.items ++ map (call_kind ts) c.in_ok-calls.calls.items))
    c.in_ok-types.ensures.items c.in_ok-final_of.ensures.means in
    let two = subst (λ (ks : List SqlType). Means (late ghosts) op (layout_types ks types c.in_ok-calls.calls.items)
    (at_node id (final types (length ks) c.in_ok-calls.calls.items) ∷ []) (ks ++ map (call_kind types) c.in_ok-calls.calls.items)) c.in_ok-kinds.ensures one in
    let three = subst (λ (cs : List Call). Means (late ghosts) op (layout_types kinds types cs) (at_node id (final types (length kinds) cs) ∷ []) (kinds ++ map (call_kind types) cs))
    c.in_ok-calls.ensures.items two in
    let four = subst (λ (n : ℕ). Means (late ghosts) op (layout_types kinds types calls) (at n) (kinds ++ map (call_kind types) calls)) (length-map keys (type_at types)) three in
    stage_is (at_node id (final types (length keys) calls)) (layout_types kinds types calls) (kinds ++ map (call_kind types) calls) (Final op) refl
    (final_means op (layout_types kinds types calls) (kinds ++ map (call_kind types) calls) (at (length keys)) four)
