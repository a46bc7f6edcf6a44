-- Calls that take one argument or two are NULL with more of them.
use Rattle.std.proofs.Common.{◌≡◌, ◌≤◌, List, [], ◌∷◌, length, refl, arith}
use Rattle.std.specs.Prelude.{Ok}
use Rattle.sql_values.specs.declared.types.SqlType.{SqlType}
use Rattle.sql_values.specs.declared.value.Value.{Value}
use Rattle.sql_values.specs.declared.value.Value.TheVariants.{Null}
use Rattle.sql_functions.specs.declared.name.CallName.{CallName}
use Rattle.sql_exprs.specs.declared.expr.Expr.{Expr}
use Rattle.sql_exprs.specs.Meaning.{arg_kinds, arg_values}
use Rattle.sql_exprs.specs.Rows.{strict_of}

pub strict_of_many : (name : CallName) (types : List SqlType) (args : List Expr) (row : List Value) → 3 ≤ length args → strict_of name (arg_kinds types args) (arg_values types args row) ≡ Ok Null
strict_of_many name types [] row h = absurd (omega arith)
strict_of_many name types (a ∷ []) row h = absurd (omega arith)
strict_of_many name types (a ∷ b ∷ []) row h = absurd (omega arith)
strict_of_many name types (a ∷ b ∷ c ∷ args) row h = refl
