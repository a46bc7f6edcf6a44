-- The stages of a driver, and what each makes of the rows that it takes.
use Rattle.std.specs.Prelude.{◌≡◌, ℕ, List, [], ◌∷◌, length, Contains}
use Rattle.sql_values.specs.declared.types.SqlType.{SqlType}
use Rattle.sql_values.specs.declared.value.Value.{Value}
use Rattle.sql_values.specs.declared.fail.Fail.{Fail}
use Rattle.sql_values.specs.declared.order.KeySpec.{KeySpec}
use Rattle.sql_values.specs.declared.relational.Call.{Call}
use Rattle.sql_values.specs.declared.relational.JoinKind.{JoinKind}
use Rattle.sql_exprs.specs.Forms.{Form}
use Rattle.bag_laws.specs.Pieces.{finals_of, partials_of}
use Rattle.bag_laws.specs.Weights.{SameWeights}
use Rattle.relation_laws.specs.Joins.{join_of}
use Rattle.relation_laws.specs.Verdicts.{fails}
use Rattle.plan_trees.specs.Modes.{Mode, Taken}
use Rattle.plan_trees.specs.Steps.{StepFails, StepForm, StepGives}
use Rattle.plan_trees.specs.Steps as steps
use Rattle.plan_trees.specs.HalvedSteps.{HalvedForm, whole_step}
use Rattle.plan_trees.specs.HalvedSteps as halved

-- a step over rows of these types; a probe, with the widths of both sides and the rows that its task
-- built; and the halves of an aggregate, the second with the types of the rows that the first takes
pub data Stage : Type 0 where
  does : List SqlType → StepForm → Stage
  probe : JoinKind → List (ℕ × ℕ) → ℕ → ℕ → List (List Value) → Stage
  partial : List ℕ → List Call → Stage
  final : List SqlType → ℕ → List Call → Stage

pattern abbrev pub filter : List SqlType → Form → Stage
filter types predicate = does types (steps.filter predicate)

pattern abbrev pub project : List SqlType → List Form → Stage
project types columns = does types (steps.project columns)

pattern abbrev pub grouping : List SqlType → List ℕ → List Call → Stage
grouping types keys calls = does types (steps.aggregate keys calls)

pattern abbrev pub sort : List SqlType → List KeySpec → Stage
sort types keys = does types (steps.sort keys)

pattern abbrev pub topn : List SqlType → ℕ → List KeySpec → Stage
topn types count keys = does types (steps.topn count keys)

pattern abbrev pub limit : List SqlType → ℕ → Stage
limit types count = does types (steps.limit count)

-- what a stage gives for all rows that it takes
abbrev pub Makes : Mode → Stage → List (List Value) → List (List Value) → Type 0
Makes mode (does types s) took gave = StepGives mode types s took gave
Makes mode (probe kind on left right built) took gave =
    SameWeights (join_of kind on left right took built) gave
Makes mode (partial keys calls) took gave = SameWeights (partials_of keys calls took) gave
Makes mode (final types width calls) took gave =
    Taken mode (finals_of types width calls took) gave

-- a row, or a group, of those that a stage takes fails with this kind
abbrev pub StageFails : Stage → List (List Value) → Fail → Type 0
StageFails (does types s) rows kind = StepFails types s rows kind
StageFails (final types width calls) rows kind = Contains (finals_of types width calls rows) (fails kind)
StageFails stage rows kind = ⊥

-- one stage after the other
abbrev pub StagesMake : Mode → List Stage → List (List Value) → List (List Value) → Type 0
StagesMake mode [] took gave = took ≡ gave
StagesMake mode (stage ∷ stages) took gave =
    (between : List (List Value)) × Makes mode stage took between × StagesMake mode stages between gave

-- the stages of the halves of a step, by the types of the rows that the first takes: both are the step itself,
-- but those of an aggregate
abbrev pub first_half : List SqlType → HalvedForm → Stage
first_half types (halved.aggregate keys calls) = partial keys calls
first_half types h = does types (whole_step h)

abbrev pub second_half : List SqlType → HalvedForm → Stage
second_half types (halved.aggregate keys calls) = final types (length keys) calls
second_half types h = does types (whole_step h)

-- what has to see all rows of its task has one driver there
abbrev pub IsAlone : ℕ → Type 0
IsAlone drivers = drivers ≡ 1

-- how many drivers of a task may do a step: any number what goes row by row
abbrev pub MayHave : StepForm → ℕ → Type 0
MayHave (steps.filter predicate) drivers = Unit {0}
MayHave (steps.project columns) drivers = Unit {0}
MayHave s drivers = IsAlone drivers
