-- Stages as operators of a node.
use Rattle.std.proofs.Common.{◌≡◌, ◌∙◌, ℕ, List, [], ◌∷◌, Bool, true, false, map, refl, ap, sym}
use Rattle.std.proofs.lemmas.Bool.{true≢false}
use Rattle.plan_trees.specs.Modes.{Mode}
use Rattle.plan_trees.specs.Steps.{StepForm, StepGives}
use Rattle.sql_values.specs.declared.types.SqlType.{SqlType}
use Rattle.sql_values.specs.declared.fail.Fail.{Fail}
use Rattle.operator_core.specs.Rows.{Row}
use Rattle.driver_loop.specs.declared.stage.Stage.{Stage}
use Rattle.driver_loop.specs.contracts.stage.StageOperator.TheImpl.{ghosts}
use Rattle.driver_loop.specs.declared.stage.Stage.TheVariants.{Dynamic, Filter, Final, Partial, Probe, Single}
use Rattle.plan_trees.specs.declared.tree.Pair.{Pair}
use Rattle.plan_trees.specs.TreeForms.{pair_view}
use Rattle.operator_core.specs.Late.{LateState}
use Rattle.operator_core.specs.LateGhosts.{late}
use Rattle.aggregation.specs.declared.single.SingleGroups.{SingleGroups}
use Rattle.aggregation.specs.contracts.single.SingleGroupsKernel.TheImpl.{ghosts as single_kernel}
use Rattle.aggregation.specs.declared.partial.PartialGroups.{PartialGroups}
use Rattle.aggregation.specs.contracts.partial.PartialGroupsKernel.TheImpl.{ghosts as partial_kernel}
use Rattle.aggregation.specs.Finals.{FinalState}
use Rattle.aggregation.specs.contracts.final_agg.FinalGroupsKernel.TheImpl.{ghosts as final_kernel}
use Rattle.hash_join.specs.Probing.{ProbeState}
use Rattle.driver_net_laws.specs.Cells.{cell_of}
use Rattle.driver_net_laws.specs.Stages.{IsStageOf, NeverLearns}
use Rattle.plan_run_laws.specs.Stages as stage
use Rattle.row_ops.specs.RowsHeld.{FilterState}
use Rattle.row_ops.specs.contracts.filter_project.FilterProjectOperator.TheImpl.{ghosts as filter_ghosts}
use Rattle.stage_meanings.proofs.OrderLemmas.{orders-mean}
use Rattle.stage_meanings.specs.RowMeanings.{Orders}
use Rattle.stage_meanings.specs.Meanings.{ActsAs, Means}
use Rattle.stage_meanings.proofs.ActLemmas.{acts_mean}
use Rattle.stage_meanings.specs.Pipelines.{NodeStage, at_node}

-- an operator that has no note
abbrev pub has_no_note : Stage → Bool
has_no_note (Probe op types) = false
has_no_note (Dynamic op types) = false
has_no_note stage = true

-- never learns
none_learned : (s m : Stage) → has_no_note s ≡ true → ghosts.may_learn s m → ⊥
none_learned (Probe op types) m apart learned = absurd cc
none_learned (Dynamic op types) m apart learned = absurd cc
none_learned s m apart learned = learned.2

pub never_learns : (stage : Stage) → has_no_note stage ≡ true → NeverLearns stage
never_learns stage apart = λ later. none_learned stage later apart

-- and looks into no cell
no_cell : (s : Stage) → has_no_note s ≡ true → cell_of s ≡ []
no_cell (Probe op types) apart = absurd cc
no_cell (Dynamic op types) apart = absurd cc
no_cell s apart = refl

-- a stage that means a node's, and has no note
pub stage_is : (at : NodeStage) (between given : List SqlType) (stage : Stage) → has_no_note stage ≡ true → Means ghosts stage between (at ∷ []) given → IsStageOf at between given stage
stage_is at between given stage apart means = record { means = means; fixed = never_learns stage apart; apart = no_cell stage apart }

-- Nothing comes to be one without a note
untaught : (s m : Stage) → has_no_note m ≡ true → ghosts.may_learn s m → ⊥
untaught (Dynamic d types) m plain learned = true≢false (sym plain ∙ ap has_no_note learned.1)
untaught (Probe p types) m plain learned = probed p types m plain learned
  where
    probed : (p : ProbeState) (types : List SqlType) (m : Stage) → has_no_note m ≡ true → ghosts.may_learn (Probe p types) m → ⊥
    probed p types m plain (to, same, learned) = true≢false (sym plain ∙ ap has_no_note same)
untaught s m plain learned = learned.2

-- One in the enum acts as the operator in it: nothing else comes to be it, and it means what that means.
filter_acts : (op : FilterState) → ActsAs ghosts (Filter op) filter_ghosts op
filter_acts op = record {
  gives = λ X Y gives. gives;
  fails = λ X node kind fails. fails;
  calm = λ X node kind fails. fails;
  learned = λ s learned. absurd (untaught s (Filter op) refl learned);
}

pub filter_means : (op : FilterState) (taken given : List SqlType) (pipeline : List NodeStage) → Means filter_ghosts op taken pipeline given
    → Means ghosts (Filter op) taken pipeline given
filter_means op taken given pipeline means = acts_mean ghosts (Filter op) filter_ghosts op (filter_acts op) taken given pipeline means

single_acts : (op : LateState SingleGroups) → ActsAs ghosts (Single op) (late single_kernel) op
single_acts op = record {
  gives = λ X Y gives. gives;
  fails = λ X node kind fails. fails;
  calm = λ X node kind fails. fails;
  learned = λ s learned. absurd (untaught s (Single op) refl learned);
}

pub single_means : (op : LateState SingleGroups) (taken given : List SqlType) (pipeline : List NodeStage) → Means (late single_kernel) op taken pipeline given
    → Means ghosts (Single op) taken pipeline given
single_means op taken given pipeline means = acts_mean ghosts (Single op) (late single_kernel) op (single_acts op) taken given pipeline means

partial_acts : (op : LateState PartialGroups) → ActsAs ghosts (Partial op) (late partial_kernel) op
partial_acts op = record {
  gives = λ X Y gives. gives;
  fails = λ X node kind fails. fails;
  calm = λ X node kind fails. fails;
  learned = λ s learned. absurd (untaught s (Partial op) refl learned);
}

pub partial_means : (op : LateState PartialGroups) (taken given : List SqlType) (pipeline : List NodeStage) → Means (late partial_kernel) op taken pipeline given
    → Means ghosts (Partial op) taken pipeline given
partial_means op taken given pipeline means = acts_mean ghosts (Partial op) (late partial_kernel) op (partial_acts op) taken given pipeline means

final_acts : (op : LateState FinalState) → ActsAs ghosts (Final op) (late final_kernel) op
final_acts op = record {
  gives = λ X Y gives. gives;
  fails = λ X node kind fails. fails;
  calm = λ X node kind fails. fails;
  learned = λ s learned. absurd (untaught s (Final op) refl learned);
}

pub final_means : (op : LateState FinalState) (taken given : List SqlType) (pipeline : List NodeStage) → Means (late final_kernel) op taken pipeline given
    → Means ghosts (Final op) taken pipeline given
final_means op taken given pipeline means = acts_mean ghosts (Final op) (late final_kernel) op (final_acts op) taken given pipeline means

-- an operator that chooses and orders its rows
pub orders_means : (made : Stage) (node : ℕ) (types : List SqlType) (step : StepForm) → Orders step
    → ((mode : Mode) (X B : List Row) → ghosts.may_give made X B → StepGives mode types step X B)
    → ((X : List Row) (node : ℕ) (kind : Fail) → ghosts.may_still_fail made X node kind → ⊥) → Means ghosts made types (at_node node (stage.does types step) ∷ []) types
orders_means made node types step some gives calm = orders-mean ghosts made node types step some (record { makes = gives; calm = calm })

pub left_keys : (on : List Pair) → map (λ (pair : Pair). pair.left) on ≡ map (λ (pair : ℕ × ℕ). pair.0) (map pair_view on)
left_keys [] = refl
left_keys (pair ∷ on) = ap (λ (ks : List ℕ). pair.left ∷ ks) (left_keys on)
