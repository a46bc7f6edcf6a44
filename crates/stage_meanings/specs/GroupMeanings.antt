-- Operators that make groups of their rows.
use Rattle.std.specs.Prelude.{◌≡◌, ◌↔◌, ℕ, List, flat_map}
use Rattle.sql_values.specs.declared.fail.Fail.{Fail}
use Rattle.sql_values.specs.Bags.{SameBag}
use Rattle.relation_laws.specs.Verdicts.{Verdict, kept}
use Rattle.operator_core.specs.declared.operator.Operator.{Ghosts}
use Rattle.operator_core.specs.Rows.{Row}
use Rattle.plan_run_laws.specs.Faults.{FailsOnGroupOf}

-- the operator gives the rows of the groups, in any order and those that fail left out, and fails as one of
-- them does, for the node. It has no note
pub record GivesGroups {S : Type 0} (g : Ghosts S) (m : S) (own : ℕ) (groups : List Row → List Verdict) : Type 0 where
  pub gives : (X Y : List Row) → g.may_give m X Y → SameBag (flat_map kept (groups X)) Y
  pub fails : (X : List Row) (node : ℕ) (kind : Fail) → g.may_still_fail m X node kind ↔ ((node ≡ own) × FailsOnGroupOf groups kind X)
  pub learned : (s : S) → g.may_learn s m → ⊥
