-- The column of a scan from which a column of a tree's rows comes, where nothing stands between the two that could fail on
-- a row or change the column. So what the scan leaves out can be said by that column.
use Rattle.std.specs.Prelude.{ℕ, List, length, slice_get, nat_lt, if◌then◌else◌, Option, Some, None}
use Rattle.std.specs.Option.{option_and_then}
use Rattle.sql_values.specs.declared.types.SqlType.{SqlType}
use Rattle.sql_values.specs.declared.relational.JoinKind.{JoinKind}
use Rattle.sql_values.specs.declared.relational.JoinKind.TheVariants.{Inner}
use Rattle.sql_exprs.specs.Calm.{are_calm, is_calm}
use Rattle.sql_exprs.specs.Forms.{Form, column, forms_of}
use Rattle.plan_trees.specs.Steps.{StepForm, filter, project}
use Rattle.plan_trees.specs.TreeForms.{TreeForm, scan, values, remote, step, join, union}
use Rattle.plan_trees.specs.TreeTypes.{types_of}
use Rattle.column_origins.specs.declared.origin.Origin.{Origin}

-- the column that an expression only names
abbrev pub named_column : Option Form → Option ℕ
named_column (Some (column n)) = Some n
named_column form = None

-- the column of the input that a project passes on at a place, over rows of these types
abbrev pub passed_column : List SqlType → List Form → ℕ → Option ℕ
passed_column types columns place = if are_calm types (forms_of columns) then named_column (slice_get columns place) else None

-- a row without a partner is left out by an inner join alone, which gives the columns of its left side first
abbrev pub left_column : JoinKind → ℕ → ℕ → Option ℕ
left_column Inner width place = if nat_lt place width then Some place else None
left_column kind width place = None

-- the column of the input that a step passes on at a place
abbrev pub passed_by : StepForm → List SqlType → ℕ → Option ℕ
passed_by (filter predicate) types place = if is_calm types predicate then Some place else None
passed_by (project columns) types place = passed_column types columns place
passed_by s types place = None

abbrev pub origin_of : TreeForm → ℕ → Option Origin
origin_of (scan id table columns types) place = Some (record { scan = id; column = place })
origin_of (values id types rows) place = None
origin_of (remote id input) place = origin_of input place
origin_of (step id s input) place = option_and_then (origin_of input) (passed_by s (types_of input) place)
origin_of (join id kind on left right) place = option_and_then (origin_of left) (left_column kind (length (types_of left)) place)
origin_of (union id left right) place = None
