-- Trees whose casts name types, over tables and constants that have the trees' types.
use Rattle.std.specs.Prelude.{List, [], ◌∷◌, IsTrue}
use Rattle.sql_values.specs.declared.types.SqlType.{SqlType}
use Rattle.sql_values.specs.declared.value.Value.{Value}
use Rattle.sql_values.specs.Types.{rows_have_types}
use Rattle.sql_exprs.specs.Forms.{Form}
use Rattle.plan_trees.specs.Steps.{StepForm, filter, project}
use Rattle.plan_trees.specs.TreeForms.{TreeForm, scan, values, remote, step, join, union}
use Rattle.plan_trees.specs.Allowed.{scanned}
use Rattle.type_laws.specs.Keeps.{CastsToTypes}

-- each row has a value of each type
abbrev pub HaveTypes : List SqlType → List (List Value) → Type 0
HaveTypes types rows = IsTrue (rows_have_types types rows)

abbrev pub EachCastsToTypes : List Form → Type 0
EachCastsToTypes [] = Unit {0}
EachCastsToTypes (form ∷ forms) = CastsToTypes form × EachCastsToTypes forms

-- the casts of a step's expressions name types
abbrev pub StepCasts : StepForm → Type 0
StepCasts (filter predicate) = CastsToTypes predicate
StepCasts (project columns) = EachCastsToTypes columns
StepCasts s = Unit {0}

abbrev pub TypedTables : TreeForm → List (List (List Value)) → Type 0
TypedTables (scan id table columns types) tables = HaveTypes types (scanned tables table columns)
TypedTables (values id types constants) tables = HaveTypes types constants
TypedTables (remote id input) tables = TypedTables input tables
TypedTables (step id s input) tables = StepCasts s × TypedTables input tables
TypedTables (join id kind on left right) tables = TypedTables left tables × TypedTables right tables
TypedTables (union id left right) tables = TypedTables left tables × TypedTables right tables
