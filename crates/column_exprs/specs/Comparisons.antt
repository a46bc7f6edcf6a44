-- Comparisons, beside the calls that they are.
use Rattle.std.specs.Prelude.{ℤ, Bool, Option, Some, None}
use Rattle.std.specs.Ordering.{int_cmp}
use Rattle.std.specs.declared.cmp.Ordering.{Ordering}
use Rattle.sql_functions.specs.declared.name.CallName.{CallName}
use Rattle.sql_functions.specs.declared.name.CallName.TheVariants as call
use Rattle.sql_functions.specs.Comparison.{ordering_meets}
use Rattle.column_exprs.specs.declared.compare.Compare.{Compare}
use Rattle.column_exprs.specs.declared.compare.Compare.TheVariants.{Equal, Unequal, Less, LessEqual, Greater, GreaterEqual}

abbrev pub name_of : Compare → CallName
name_of Equal = call.Equal
name_of Unequal = call.Unequal
name_of Less = call.Less
name_of LessEqual = call.LessEqual
name_of Greater = call.Greater
name_of GreaterEqual = call.GreaterEqual

-- whether two values in this order make the comparison true
abbrev pub holds : Compare → Ordering → Bool
holds op o = ordering_meets (name_of op) o

-- whether the comparison of two numbers holds; missing where one of them is
abbrev pub both : Compare → Option ℤ → Option ℤ → Option Bool
both op None p = None
both op (Some x) None = None
both op (Some x) (Some y) = Some (holds op (int_cmp x y))
