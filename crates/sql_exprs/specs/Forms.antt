-- The form of an expression: what it says, without the memory that holds it.
use Rattle.std.specs.Prelude.{ℕ, List, [], ◌∷◌}
use Rattle.sql_values.specs.declared.types.SqlType.{SqlType}
use Rattle.sql_values.specs.declared.value.Value.{Value}
use Rattle.sql_functions.specs.declared.name.CallName.{CallName}
use Rattle.sql_exprs.specs.declared.expr.Expr.{Expr, fold-Expr}
use Rattle.sql_exprs.specs.declared.expr.Branch.{Branch, fold-Branch}
use Rattle.sql_exprs.specs.declared.expr.Expr.TheOpen.{Expr-F, Branch-F}

mutual
  pub data Form : Type 0 where
    column : ℕ → Form
    literal : SqlType → Value → Form
    null : SqlType → Form
    call : CallName → Forms → Form
    cast : Form → SqlType → Form
    choice : Choices → Form → Form

  pub data Forms : Type 0 where
    none : Forms
    more : Form → Forms → Forms

  pub data Choices : Type 0 where
    last : Choices
    branch : Form → Form → Choices → Choices

abbrev pub forms_of : List Form → Forms
forms_of [] = none
forms_of (f ∷ fs) = more f (forms_of fs)

abbrev pub choices_of : List (Form × Form) → Choices
choices_of [] = last
choices_of ((test, result) ∷ bs) = branch test result (choices_of bs)

abbrev pub form_step : Expr-F Form (Form × Form) → Form
form_step (Expr-F.Column n) = column n
form_step (Expr-F.Literal kind value) = literal kind value
form_step (Expr-F.Null kind) = null kind
form_step (Expr-F.Call name args) = call name (forms_of args.items)
form_step (Expr-F.Cast arg kind) = cast arg.value kind
form_step (Expr-F.Case branches other) = choice (choices_of branches.items) other.value

abbrev pub branch_step : Branch-F Form (Form × Form) → Form × Form
branch_step b = (b.test, b.result)

-- the form of an expression, and of a branch
abbrev pub form_view : Expr → Form
form_view = fold-Expr Form (Form × Form) form_step branch_step

abbrev pub branch_view : Branch → Form × Form
branch_view = fold-Branch Form (Form × Form) form_step branch_step
