-- The types and the values of forms on a row whose columns have the given types.
use Rattle.std.specs.Prelude.{List, [], ◌∷◌, map, Ok}
use Rattle.sql_values.specs.declared.types.SqlType.{SqlType}
use Rattle.sql_values.specs.declared.value.Value.{Value}
use Rattle.sql_values.specs.declared.value.Value.TheVariants.{Null}
use Rattle.sql_values.specs.Cells.{cell}
use Rattle.sql_functions.specs.declared.name.CallName.{CallName}
use Rattle.sql_functions.specs.Outcomes.{Outcome, and_then}
use Rattle.sql_functions.specs.Casts.{cast_of}
use Rattle.sql_functions.specs.CallTypes.{call_type, type_at}
use Rattle.sql_exprs.specs.declared.expr.Expr.{Expr}
use Rattle.sql_exprs.specs.declared.expr.Branch.{Branch}
use Rattle.sql_exprs.specs.Forms.{Form, column, literal, null, call, cast, choice, Forms, none, more, Choices, last, branch, forms_of, choices_of, form_view, branch_view}
use Rattle.sql_exprs.specs.Rows.{call_of, case_of}

-- the type of a call's arguments decides that of the call
abbrev pub type_of_call : CallName → List SqlType → SqlType
type_of_call name kinds = call_type name (type_at kinds 0) (type_at kinds 1)

-- the type of a form that is typed
abbrev mutual
  pub kind_of : List SqlType → Form → SqlType
  kind_of types (column n) = type_at types n
  kind_of types (literal kind value) = kind
  kind_of types (null kind) = kind
  kind_of types (call name args) = type_of_call name (kinds_of types args)
  kind_of types (cast arg kind) = kind
  kind_of types (choice branches other) = kind_of types other

  pub kinds_of : List SqlType → Forms → List SqlType
  kinds_of types none = []
  kinds_of types (more form forms) = kind_of types form ∷ kinds_of types forms

-- the value of a form on a row, or its failure
abbrev mutual
  pub value_of : List SqlType → Form → List Value → Outcome
  value_of types (column n) row = Ok (cell row n)
  value_of types (literal kind value) row = Ok value
  value_of types (null kind) row = Ok Null
  value_of types (call name args) row =
      call_of name (kinds_of types args) (values_of types args row)
  value_of types (cast arg kind) row =
      and_then (value_of types arg row) (cast_of (kind_of types arg) kind)
  value_of types (choice branches other) row =
      case_of (branches_of types branches row) (value_of types other row)

  pub values_of : List SqlType → Forms → List Value → List Outcome
  values_of types none row = []
  values_of types (more form forms) row = value_of types form row ∷ values_of types forms row

  pub branches_of : List SqlType → Choices → List Value → List (Outcome × Outcome)
  branches_of types last row = []
  branches_of types (branch test result rest) row =
      (value_of types test row, value_of types result row) ∷ branches_of types rest row

-- of lists of expressions
abbrev pub arg_kinds : List SqlType → List Expr → List SqlType
arg_kinds types args = kinds_of types (forms_of (map form_view args))

abbrev pub arg_values : List SqlType → List Expr → List Value → List Outcome
arg_values types args row = values_of types (forms_of (map form_view args)) row

abbrev pub branch_values : List SqlType → List Branch → List Value → List (Outcome × Outcome)
branch_values types branches row = branches_of types (choices_of (map branch_view branches)) row
