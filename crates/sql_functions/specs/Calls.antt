-- The calls by their names, on values that are known. The types of the arguments come before them.
use Rattle.std.specs.Prelude.{Ok}
use Rattle.sql_values.specs.declared.types.SqlType.{SqlType}
use Rattle.sql_values.specs.declared.value.Value.{Value}
use Rattle.sql_values.specs.declared.value.Value.TheVariants.{Null, Boolean}
use Rattle.sql_functions.specs.declared.name.CallName.{CallName}
use Rattle.sql_functions.specs.declared.name.CallName.TheVariants as call
use Rattle.sql_functions.specs.Outcomes.{Outcome}
use Rattle.sql_functions.specs.Truth.{is_null, truth_not}
use Rattle.sql_functions.specs.Comparison.{compared, distinct}
use Rattle.sql_functions.specs.Arithmetic.{sum_of, difference_of, product_of, quotient_of, remainder_of, opposite_of}
use Rattle.sql_functions.specs.TextCalls.{length_of, concat_of}
use Rattle.sql_functions.specs.DateCalls.{add_days_of, days_between_of, year_of, month_of, day_of}
use Rattle.sql_functions.specs.Like.{like_of}

-- a call of one argument
abbrev pub unary_of : CallName → SqlType → Value → Outcome
unary_of call.Neg kind v = opposite_of kind v
unary_of call.IsNull kind v = Ok (Boolean (is_null v))
unary_of call.Not kind v = Ok (truth_not v)
unary_of call.Length kind v = Ok (length_of v)
unary_of call.Year kind v = Ok (year_of v)
unary_of call.Month kind v = Ok (month_of v)
unary_of call.Day kind v = Ok (day_of v)
unary_of name kind v = Ok Null

-- a call of two arguments
abbrev pub binary_of : CallName → SqlType → SqlType → Value → Value → Outcome
binary_of call.Add left right v w = sum_of left right v w
binary_of call.Subtract left right v w = difference_of left right v w
binary_of call.Multiply left right v w = product_of left right v w
binary_of call.Divide left right v w = quotient_of v w
binary_of call.Modulo left right v w = remainder_of v w
binary_of call.Equal left right v w = Ok (compared call.Equal v w)
binary_of call.Unequal left right v w = Ok (compared call.Unequal v w)
binary_of call.Less left right v w = Ok (compared call.Less v w)
binary_of call.LessEqual left right v w = Ok (compared call.LessEqual v w)
binary_of call.Greater left right v w = Ok (compared call.Greater v w)
binary_of call.GreaterEqual left right v w = Ok (compared call.GreaterEqual v w)
binary_of call.IsDistinct left right v w = Ok (distinct v w)
binary_of call.Like left right v w = Ok (like_of v w)
binary_of call.Concat left right v w = concat_of v w
binary_of call.AddDays left right v w = add_days_of v w
binary_of call.DaysBetween left right v w = Ok (days_between_of v w)
binary_of name left right v w = Ok Null
