-- The expressions of an operator: a predicate, where there is one, and columns.
use Rattle.std.specs.Prelude.{List, Option}
use Rattle.sql_exprs.specs.declared.expr.Expr.{Expr}

pub record ExpressionLists : Type 0 where
  pub predicate : Option Expr
  pub columns : List Expr
