-- Operators that judge row by row, and those that choose and order rows.
use Rattle.std.specs.Prelude.{◌≡◌, ◌↔◌, ℕ, List, Some}
use Rattle.sql_values.specs.declared.fail.Fail.{Fail}
use Rattle.relation_laws.specs.Verdicts.{Verdict}
use Rattle.page_processor.specs.Judged.{first_failure, rows_before}
use Rattle.operator_core.specs.declared.operator.Operator.{Ghosts}
use Rattle.operator_core.specs.Rows.{Row}
use Rattle.plan_trees.specs.Allowed.{Mode}
use Rattle.plan_trees.specs.Steps.{StepForm, aggregate, filter, project}
use Rattle.plan_run_laws.specs.Stages.{Makes, Stage}

-- the operator gives what the judge keeps of the rows before the first that fails, and fails as that one
-- does, for the node. It has no note
pub record JudgesRows {S : Type 0} (g : Ghosts S) (m : S) (own : ℕ) (judge : Row → Verdict) : Type 0 where
  pub gives : (X Y : List Row) → g.may_give m X Y → Y ≡ rows_before judge X
  pub fails : (X : List Row) (node : ℕ) (kind : Fail) → g.may_still_fail m X node kind ↔ ((node ≡ own) × (first_failure judge X ≡ Some kind))
  pub learned : (s : S) → g.may_learn s m → ⊥

-- the operator gives what the stage makes of the rows, and never fails
pub record MakesRows {S : Type 0} (g : Ghosts S) (m : S) (stage : Stage) : Type 0 where
  pub makes : (mode : Mode) (X Y : List Row) → g.may_give m X Y → Makes mode stage X Y
  pub calm : (X : List Row) (node : ℕ) (kind : Fail) → g.may_still_fail m X node kind → ⊥

-- a step that chooses or orders its rows, and changes none
abbrev pub Orders : StepForm → Type 0
Orders (filter predicate) = ⊥
Orders (project columns) = ⊥
Orders (aggregate keys calls) = ⊥
Orders s = Unit {0}
