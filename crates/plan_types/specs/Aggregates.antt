-- Aggregates: what their calls take, and the columns that they give.
use Rattle.std.specs.Prelude.{ℕ, List, ◌++◌, length, map, Bool, true, false, not, ◌&&◌, ◌||◌, nat_le, nat_lt, Some}
use Rattle.sql_values.specs.declared.types.SqlType.{SqlType}
use Rattle.sql_values.specs.declared.types.SqlType.TheVariants.{Decimal}
use Rattle.sql_values.specs.declared.relational.Call.{Call}
use Rattle.sql_values.specs.declared.relational.Call.TheVariants.{CountAll, Count, Sum, Min, Max, Avg}
use Rattle.sql_functions.specs.CallTypes.{is_bigint, type_at}
use Rattle.plan_docs.specs.declared.node.NodeStep.{NodeStep}
use Rattle.plan_docs.specs.declared.node.NodeStep.TheVariants.{Single, Partial}
use Rattle.plan_trees.specs.Layouts.{partial_types}
use Rattle.plan_trees.specs.TreeTypes.{call_kind}
use Rattle.plan_types.specs.declared.row_types.RowTypes.{RowTypes}
use Rattle.plan_types.specs.RowTypes.{plain}

-- sums of so few digits stay within 38
abbrev pub is_short : SqlType → Bool
is_short (Decimal p s) = nat_le p 18
is_short kind = false

abbrev pub has_column : List SqlType → ℕ → Bool
has_column types column = nat_lt column (length types)

abbrev pub is_summed : SqlType → Bool
is_summed kind = is_bigint kind || is_short kind

abbrev pub takes : List SqlType → Call → Bool
takes types CountAll = true
takes types (Count column) = has_column types column
takes types (Sum column) = has_column types column && is_summed (type_at types column)
takes types (Min column) = has_column types column
takes types (Max column) = has_column types column
takes types (Avg column) = has_column types column && is_short (type_at types column)

abbrev pub takes_not : List SqlType → Call → Bool
takes_not types call = not (takes types call)

-- the keys, then the calls
abbrev pub whole_types : List SqlType → List ℕ → List Call → List SqlType
whole_types types keys calls = map (type_at types) keys ++ map (call_kind types) calls

abbrev pub step_types : NodeStep → List SqlType → List ℕ → List Call → RowTypes
step_types Single types keys calls = plain (whole_types types keys calls)
step_types Partial types keys calls = record { columns = partial_types types keys calls; whole = Some (whole_types types keys calls) }
