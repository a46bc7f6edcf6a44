-- Calm forms: those in which nothing is marked as able to fail.
use Rattle.std.specs.Prelude.{List, slice_get, Bool, true, false, not, ◌&&◌, ◌||◌, Option, Some, None, map}
use Rattle.std.specs.Option.{option_or}
use Rattle.sql_values.specs.declared.types.SqlType.{SqlType}
use Rattle.sql_values.specs.declared.types.SqlType.TheVariants.{Boolean}
use Rattle.sql_functions.specs.declared.name.CallName.{CallName}
use Rattle.sql_functions.specs.declared.name.CallName.TheVariants.{Add, Subtract, Multiply, Divide, Modulo, Neg, Concat, AddDays, Coalesce}
use Rattle.sql_functions.specs.CallTypes.{call_type, is_varchar, same_type}
use Rattle.sql_exprs.specs.declared.expr.Expr.{Expr}
use Rattle.sql_exprs.specs.declared.expr.Branch.{Branch}
use Rattle.sql_exprs.specs.Forms.{Form, column, literal, null, call, cast, choice, Forms, none, more, Choices, last, branch, forms_of, choices_of, form_view, branch_view}

-- the calls that are marked as able to fail
abbrev pub can_fail : CallName → Bool
can_fail Add = true
can_fail Subtract = true
can_fail Multiply = true
can_fail Divide = true
can_fail Modulo = true
can_fail Neg = true
can_fail Concat = true
can_fail AddDays = true
can_fail name = false

-- the type that a call's name says, or else that its arguments show
abbrev pub shown_by_call : CallName → Option SqlType → Option SqlType
shown_by_call Add shown = None
shown_by_call Subtract shown = None
shown_by_call Multiply shown = None
shown_by_call Neg shown = None
shown_by_call Coalesce shown = shown
shown_by_call name shown = Some (call_type name Boolean Boolean)

-- the type that shows in a form, where the types of the first columns are known; sums, differences
-- and products can fail anyway
abbrev mutual
  pub shown_type : List SqlType → Form → Option SqlType
  shown_type types (column n) = slice_get types n
  shown_type types (literal kind value) = Some kind
  shown_type types (null kind) = Some kind
  shown_type types (call name args) = shown_by_call name (shown_in_args types args)
  shown_type types (cast arg kind) = Some kind
  shown_type types (choice branches other) =
      option_or (shown_type types other) (shown_in_results types branches)

  pub shown_in_args : List SqlType → Forms → Option SqlType
  shown_in_args types none = None
  shown_in_args types (more form forms) =
      option_or (shown_type types form) (shown_in_args types forms)

  pub shown_in_results : List SqlType → Choices → Option SqlType
  shown_in_results types last = None
  shown_in_results types (branch test result rest) =
      option_or (shown_type types result) (shown_in_results types rest)

-- a cast to varchar, or of a type to itself
abbrev pub is_own_type : Option SqlType → SqlType → Bool
is_own_type (Some from) to = same_type from to
is_own_type None to = false

abbrev pub is_calm_cast : Option SqlType → SqlType → Bool
is_calm_cast shown to = is_varchar to || is_own_type shown to

abbrev mutual
  pub is_calm : List SqlType → Form → Bool
  is_calm types (column n) = true
  is_calm types (literal kind value) = true
  is_calm types (null kind) = true
  is_calm types (call name args) = not (can_fail name) && are_calm types args
  is_calm types (cast arg kind) = is_calm_cast (shown_type types arg) kind && is_calm types arg
  is_calm types (choice branches other) = branches_are_calm types branches && is_calm types other

  pub are_calm : List SqlType → Forms → Bool
  are_calm types none = true
  are_calm types (more form forms) = is_calm types form && are_calm types forms

  pub branches_are_calm : List SqlType → Choices → Bool
  branches_are_calm types last = true
  branches_are_calm types (branch test result rest) =
      (is_calm types test && is_calm types result) && branches_are_calm types rest

-- of lists of expressions
abbrev pub args_show : List SqlType → List Expr → Option SqlType
args_show types args = shown_in_args types (forms_of (map form_view args))

abbrev pub results_show : List SqlType → List Branch → Option SqlType
results_show types branches = shown_in_results types (choices_of (map branch_view branches))

abbrev pub args_are_calm : List SqlType → List Expr → Bool
args_are_calm types args = are_calm types (forms_of (map form_view args))

abbrev pub all_branches_are_calm : List SqlType → List Branch → Bool
all_branches_are_calm types branches =
    branches_are_calm types (choices_of (map branch_view branches))
