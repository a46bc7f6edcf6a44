-- What may be seen of a run that something stopped: which rows a node may have given by then, and on
-- which node it may have failed.
use Rattle.std.specs.Prelude.{◌≡◌, ◌⊎◌, ℕ, List, ◌++◌, Bool, true, false}
use Rattle.sql_values.specs.declared.value.Value.{Value}
use Rattle.sql_values.specs.declared.fail.Fail.{Fail}
use Rattle.sql_values.specs.Bags.{SubBag}
use Rattle.relation_laws.specs.Joins.{join_of}
use Rattle.plan_trees.specs.TreeForms.{TreeForm, scan, values, remote, step, join, union}
use Rattle.plan_trees.specs.TreeTypes.{types_of}
use Rattle.plan_trees.specs.Steps.{StepForm}
use Rattle.plan_trees.specs.Allowed.{AllowsSkipping, StepGives, scanned, skipping, width_of}
pub use Rattle.plan_trees.specs.Steps.{RowFails, StepBegins, StepFails, is_late}

-- what a late step needs of its input, or what another one does
abbrev pub Came : Bool → Type 0 → Type 0 → Type 0
Came true Whole Begun = Whole
Came false Whole Begun = Begun

-- rows that the node may have given. What waits for its whole input gives rows of a list that is
-- allowed with failing rows and groups left out: one task may have its whole input while a row
-- fails in another
abbrev pub MayHaveGiven : TreeForm → List (List (List Value)) → List (List Value) → Type 0
MayHaveGiven (scan id table columns types) tables rows = SubBag rows (scanned tables table columns)
MayHaveGiven (values id types constants) tables rows = SubBag rows constants
MayHaveGiven (remote id input) tables rows = (A : List (List Value)) × MayHaveGiven input tables A × SubBag rows A
MayHaveGiven (step id s input) tables rows =
    (A : List (List Value)) × (B : List (List Value))
    × Came (is_late s) (AllowsSkipping input tables A) (MayHaveGiven input tables A)
    × StepGives skipping (types_of input) s A B × StepBegins s rows B
MayHaveGiven (join id kind on left right) tables rows =
    (A : List (List Value)) × (B : List (List Value)) × MayHaveGiven left tables A × AllowsSkipping right tables B
    × SubBag rows (join_of kind on (width_of left) (width_of right) A B)
MayHaveGiven (union id left right) tables rows =
    (A : List (List Value)) × (B : List (List Value)) × MayHaveGiven left tables A × MayHaveGiven right tables B × SubBag rows (A ++ B)

-- a step fails with this kind on a row, or a group, of what may have come from its input
pub record FailsOn (tables : List (List (List Value))) (s : StepForm) (input : TreeForm) (kind : Fail) : Type 0 where
  pub given : List (List Value)
  pub may : Came (is_late s) (AllowsSkipping input tables given) (MayHaveGiven input tables given)
  pub so : StepFails (types_of input) s given kind

-- the node of this id fails with this kind on a row, or a group, that the tree may list
abbrev pub MayFail : TreeForm → List (List (List Value)) → ℕ → Fail → Type 0
MayFail (scan id table columns types) tables node kind = ⊥
MayFail (values id types constants) tables node kind = ⊥
MayFail (remote id input) tables node kind = MayFail input tables node kind
MayFail (step id s input) tables node kind = ((id ≡ node) × FailsOn tables s input kind) ⊎ MayFail input tables node kind
MayFail (join id how on left right) tables node kind = MayFail left tables node kind ⊎ MayFail right tables node kind
MayFail (union id left right) tables node kind = MayFail left tables node kind ⊎ MayFail right tables node kind
