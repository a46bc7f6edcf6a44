-- The laws of a stage, one line for each operator.
use Rattle.std.specs.Prelude.{refl}
use Rattle.row_ops.specs.contracts.filter_project.FilterProjectOperator.TheImpl.{ghosts as filter}
use Rattle.row_ops.specs.contracts.limit.LimitOpOperator.TheImpl.{ghosts as limit}
use Rattle.topn_sort.specs.contracts.sort.SortBufferKernel.TheImpl.{ghosts as sort}
use Rattle.topn_sort.specs.contracts.topn.TopRowsKernel.TheImpl.{ghosts as topn}
use Rattle.aggregation.specs.contracts.single.SingleGroupsKernel.TheImpl.{ghosts as single}
use Rattle.aggregation.specs.contracts.partial.PartialGroupsKernel.TheImpl.{ghosts as partial}
use Rattle.aggregation.specs.contracts.final_agg.FinalGroupsKernel.TheImpl.{ghosts as final}
use Rattle.hash_join.specs.contracts.probe.ProbeOpOperator.TheImpl.{ghosts as probe}
use Rattle.dyn_filter.specs.contracts.filter.FilterOpOperator.TheImpl.{ghosts as dynamic}
use Rattle.row_ops.specs.contracts.filter_project.FilterProjectOperator.TheImpl.Laws as filter_laws
use Rattle.row_ops.specs.contracts.limit.LimitOpOperator.TheImpl.Laws as limit_laws
use Rattle.topn_sort.specs.contracts.sort.SortBufferKernel.TheImpl.Laws as sort_laws
use Rattle.topn_sort.specs.contracts.topn.TopRowsKernel.TheImpl.Laws as topn_laws
use Rattle.aggregation.specs.contracts.single.SingleGroupsKernel.TheImpl.Laws as single_laws
use Rattle.aggregation.specs.contracts.partial.PartialGroupsKernel.TheImpl.Laws as partial_laws
use Rattle.aggregation.specs.contracts.final_agg.FinalGroupsKernel.TheImpl.Laws as final_laws
use Rattle.hash_join.specs.contracts.probe.ProbeOpOperator.TheImpl.Laws as probe_laws
use Rattle.dyn_filter.specs.contracts.filter.FilterOpOperator.TheImpl.Laws as dynamic_laws
use Rattle.operator_core.specs.LateGhosts.{late}
use Rattle.driver_loop.specs.declared.stage.Stage.{Stage}
use Rattle.driver_loop.specs.declared.stage.Stage.TheVariants.{Filter, Limit, Sort, TopN, Single, Partial, Final, Probe, Dynamic}
use Rattle.driver_loop.specs.Operators.{stage_ghosts}
use Rattle.driver_loop.specs.OperatorLaws.{LawsNow, LearnLaws, late_laws, laws_now, learn_laws, now}

pub laws_of : (t : Stage) → LawsNow (now stage_ghosts t)
laws_of (Filter op) = laws_now filter filter_laws.lawful op
laws_of (Limit op types) = laws_now limit limit_laws.lawful op
laws_of (Sort op) = laws_now (late sort) (late_laws sort sort_laws.lawful) op
laws_of (TopN op) = laws_now (late topn) (late_laws topn topn_laws.lawful) op
laws_of (Single op) = laws_now (late single) (late_laws single single_laws.lawful) op
laws_of (Partial op) = laws_now (late partial) (late_laws partial partial_laws.lawful) op
laws_of (Final op) = laws_now (late final) (late_laws final final_laws.lawful) op
laws_of (Probe op types) = laws_now probe probe_laws.lawful op
laws_of (Dynamic op types) = laws_now dynamic dynamic_laws.lawful op

-- and of what it may learn
abbrev pub LearnsOf : Stage → Type 0
LearnsOf t = LearnLaws stage_ghosts (now stage_ghosts t) (stage_ghosts.as_made (stage_ghosts.as_made t)) (stage_ghosts.as_made t)
    (stage_ghosts.may_learn t) (stage_ghosts.may_learn (stage_ghosts.as_made t))

pub learns_of : (t : Stage) → LearnsOf t
learns_of (Filter op) = learn_laws stage_ghosts filter filter_laws.lawful Filter (λ s. refl) (λ s. refl) op
learns_of (Limit op types) = learn_laws stage_ghosts limit limit_laws.lawful (λ s. Limit s types) (λ s. refl) (λ s. refl) op
learns_of (Sort op) = learn_laws stage_ghosts (late sort) (late_laws sort sort_laws.lawful) Sort (λ s. refl) (λ s. refl) op
learns_of (TopN op) = learn_laws stage_ghosts (late topn) (late_laws topn topn_laws.lawful) TopN (λ s. refl) (λ s. refl) op
learns_of (Single op) = learn_laws stage_ghosts (late single) (late_laws single single_laws.lawful) Single (λ s. refl) (λ s. refl) op
learns_of (Partial op) = learn_laws stage_ghosts (late partial) (late_laws partial partial_laws.lawful) Partial (λ s. refl) (λ s. refl) op
learns_of (Final op) = learn_laws stage_ghosts (late final) (late_laws final final_laws.lawful) Final (λ s. refl) (λ s. refl) op
learns_of (Probe op types) = learn_laws stage_ghosts probe probe_laws.lawful (λ s. Probe s types) (λ s. refl) (λ s. refl) op
learns_of (Dynamic op types) = learn_laws stage_ghosts dynamic dynamic_laws.lawful (λ s. Dynamic s types) (λ s. refl) (λ s. refl) op
