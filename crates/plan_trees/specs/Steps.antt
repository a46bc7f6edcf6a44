-- What a node of one input does: a new operator is a row of each of these tables.
use Rattle.std.specs.Prelude.{◌≡◌, ℕ, List, ◌++◌, map, take, Bool, true, false, Contains}
use Rattle.sql_values.specs.declared.types.SqlType.{SqlType}
use Rattle.sql_values.specs.declared.value.Value.{Value}
use Rattle.sql_values.specs.declared.fail.Fail.{Fail}
use Rattle.sql_values.specs.declared.order.KeySpec.{KeySpec}
use Rattle.sql_values.specs.declared.relational.Call.{Call}
use Rattle.sql_values.specs.Bags.{SubBag}
use Rattle.sql_functions.specs.CallTypes.{type_at}
use Rattle.sql_exprs.specs.Forms.{Form}
use Rattle.sql_exprs.specs.Meaning.{kind_of}
use Rattle.relation_laws.specs.Groups.{groups_of}
use Rattle.relation_laws.specs.Sorts.{IsBeginning, IsSortOf, IsTopOf}
use Rattle.relation_laws.specs.Verdicts.{Verdict, fails}
use Rattle.plan_trees.specs.CallKinds.{call_kind}
use Rattle.plan_trees.specs.Judges.{filter_judge, project_judge}
use Rattle.plan_trees.specs.Modes.{Mode, Judged, Taken}

pub data StepForm : Type 0 where
  filter : Form → StepForm
  project : List Form → StepForm
  aggregate : List ℕ → List Call → StepForm
  sort : List KeySpec → StepForm
  topn : ℕ → List KeySpec → StepForm
  limit : ℕ → StepForm

-- the types of what it makes of rows of these types
abbrev pub types_after : StepForm → List SqlType → List SqlType
types_after (filter predicate) types = types
types_after (project columns) types = map (kind_of types) columns
types_after (aggregate keys calls) types = map (type_at types) keys ++ map (call_kind types) calls
types_after (sort keys) types = types
types_after (topn count keys) types = types
types_after (limit count) types = types

-- what it makes of all rows of its input
abbrev pub StepGives : Mode → List SqlType → StepForm → List (List Value) → List (List Value) → Type 0
StepGives mode types (filter predicate) input rows = Judged mode (filter_judge types predicate) input rows
StepGives mode types (project columns) input rows = Judged mode (project_judge types columns) input rows
StepGives mode types (aggregate keys calls) input rows = Taken mode (groups_of types keys calls input) rows
StepGives mode types (sort keys) input rows = IsSortOf keys input rows
StepGives mode types (topn count keys) input rows = IsTopOf keys count input rows
StepGives mode types (limit count) input rows = rows ≡ take count input

-- it gives nothing before it has its whole input
abbrev pub is_late : StepForm → Bool
is_late (filter predicate) = false
is_late (project columns) = false
is_late (aggregate keys calls) = true
is_late (sort keys) = true
is_late (topn count keys) = true
is_late (limit count) = false

-- what it may have given of the rows that it makes, when something stopped it
abbrev pub StepBegins : StepForm → List (List Value) → List (List Value) → Type 0
StepBegins (filter predicate) rows all = rows ≡ all
StepBegins (project columns) rows all = rows ≡ all
StepBegins (aggregate keys calls) rows all = SubBag rows all
StepBegins (sort keys) rows all = IsBeginning rows all
StepBegins (topn count keys) rows all = IsBeginning rows all
StepBegins (limit count) rows all = rows ≡ all

-- a row among these fails with this kind
abbrev pub RowFails : (List Value → Verdict) → List (List Value) → Fail → Type 0
RowFails judge rows kind = (row : List Value) × Contains rows row × (judge row ≡ fails kind)

-- a row, or a group, of these fails with this kind
abbrev pub StepFails : List SqlType → StepForm → List (List Value) → Fail → Type 0
StepFails types (filter predicate) rows kind = RowFails (filter_judge types predicate) rows kind
StepFails types (project columns) rows kind = RowFails (project_judge types columns) rows kind
StepFails types (aggregate keys calls) rows kind = Contains (groups_of types keys calls rows) (fails kind)
StepFails types (sort keys) rows kind = ⊥
StepFails types (topn count keys) rows kind = ⊥
StepFails types (limit count) rows kind = ⊥
