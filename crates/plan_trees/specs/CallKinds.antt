-- The types of the results of calls.
use Rattle.std.specs.Prelude.{List}
use Rattle.sql_values.specs.declared.types.SqlType.{SqlType}
use Rattle.sql_values.specs.declared.types.SqlType.TheVariants.{Bigint, Decimal}
use Rattle.sql_values.specs.declared.relational.Call.{Call}
use Rattle.sql_values.specs.declared.relational.Call.TheVariants.{CountAll, Count, Sum, Min, Max, Avg}
use Rattle.sql_functions.specs.CallTypes.{type_at}

-- the type of a sum: a bigint, or a decimal of all digits
abbrev pub sum_kind : SqlType → SqlType
sum_kind (Decimal p s) = Decimal 38 s
sum_kind kind = Bigint

-- the type of a call's result over rows of these types
abbrev pub call_kind : List SqlType → Call → SqlType
call_kind types CountAll = Bigint
call_kind types (Count column) = Bigint
call_kind types (Sum column) = sum_kind (type_at types column)
call_kind types (Min column) = type_at types column
call_kind types (Max column) = type_at types column
call_kind types (Avg column) = type_at types column
