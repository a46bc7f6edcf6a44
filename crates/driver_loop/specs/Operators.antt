-- The operators of stages, one line each.
use Rattle.std.specs.Prelude.{false}
use Rattle.operator_core.specs.declared.operator.Operator.{Ghosts}
use Rattle.row_ops.specs.RowsHeld.{FilterState}
use Rattle.row_ops.specs.declared.limit.LimitOp.{LimitOp as LimitState}
use Rattle.operator_core.specs.Late.{LateState}
use Rattle.operator_core.specs.LateGhosts.{late}
use Rattle.topn_sort.specs.Sorting.{BufferState, TopState}
use Rattle.aggregation.specs.declared.single.SingleGroups.{SingleGroups}
use Rattle.aggregation.specs.declared.partial.PartialGroups.{PartialGroups}
use Rattle.aggregation.specs.Finals.{FinalState}
use Rattle.hash_join.specs.Probing.{ProbeState}
use Rattle.dyn_filter.specs.Filters.{FilterState as DynamicState}
use Rattle.row_ops.specs.contracts.filter_project.FilterProjectOperator.TheImpl.{ghosts as filter}
use Rattle.row_ops.specs.contracts.limit.LimitOpOperator.TheImpl.{ghosts as limit}
use Rattle.topn_sort.specs.contracts.sort.SortBufferKernel.TheImpl.{ghosts as sort}
use Rattle.topn_sort.specs.contracts.topn.TopRowsKernel.TheImpl.{ghosts as topn}
use Rattle.aggregation.specs.contracts.single.SingleGroupsKernel.TheImpl.{ghosts as single}
use Rattle.aggregation.specs.contracts.partial.PartialGroupsKernel.TheImpl.{ghosts as partial}
use Rattle.aggregation.specs.contracts.final_agg.FinalGroupsKernel.TheImpl.{ghosts as final}
use Rattle.hash_join.specs.contracts.probe.ProbeOpOperator.TheImpl.{ghosts as probe}
use Rattle.dyn_filter.specs.contracts.filter.FilterOpOperator.TheImpl.{ghosts as dynamic}
use Rattle.driver_loop.specs.declared.stage.Stage.{Stage}
use Rattle.driver_loop.specs.declared.stage.Stage.TheVariants.{Filter, Limit, Sort, TopN, Single, Partial, Final, Probe, Dynamic}
use Rattle.driver_loop.specs.OperatorLaws.{LearnsAs}

-- what is read of a stage's operator; who reads is also given the function that puts a state into the stage in the
-- operator's place
abbrev pub of_operator {ℓ} : {R : Type ℓ} → ((S : Type 0) → Ghosts S → (S → Stage) → S → R) → Stage → R
of_operator read (Filter op) = read FilterState filter Filter op
of_operator read (Limit op types) = read LimitState limit (λ s. Limit s types) op
of_operator read (Sort op) = read (LateState BufferState) (late sort) Sort op
of_operator read (TopN op) = read (LateState TopState) (late topn) TopN op
of_operator read (Single op) = read (LateState SingleGroups) (late single) Single op
of_operator read (Partial op) = read (LateState PartialGroups) (late partial) Partial op
of_operator read (Final op) = read (LateState FinalState) (late final) Final op
of_operator read (Probe op types) = read ProbeState probe (λ s. Probe s types) op
of_operator read (Dynamic op types) = read DynamicState dynamic (λ s. Dynamic s types) op

-- a stage as its operator
abbrev pub stage_ghosts : Ghosts Stage
stage_ghosts = record {
  may_give = of_operator (λ _ g _ s. g.may_give s);
  may_still_fail = of_operator (λ _ g _ s. g.may_still_fail s);
  takes = of_operator (λ _ g _ s. g.takes s);
  page_size = of_operator (λ _ g _ s. g.page_size s);
  is_full = λ _. false;
  gives_late = of_operator (λ _ g _ s. g.gives_late s);
  needs_input = of_operator (λ _ g _ s. g.needs_input s);
  holds_row = of_operator (λ _ g _ s. g.holds_row s);
  is_told = of_operator (λ _ g _ s. g.is_told s);
  is_finished = of_operator (λ _ g _ s. g.is_finished s);
  waits = of_operator (λ _ g _ s. g.waits s);
  bell = of_operator (λ _ g _ s. g.bell s);
  knows = of_operator (λ _ g _ s. g.knows s);
  empty_looks = of_operator (λ _ g _ s. g.empty_looks s);
  looked_at = of_operator (λ _ g _ s. g.looked_at s);
  went = of_operator (λ _ g _ s. g.went s);
  counted = of_operator (λ _ g _ s. g.counted s);
  as_made = of_operator (λ _ g stage s. stage (g.as_made s));
  may_learn = of_operator (λ _ g stage s. LearnsAs g stage s);
}
