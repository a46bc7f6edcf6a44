-- The layout of rows between the halves of an aggregate: a key, and then a partial row.
use Rattle.std.specs.Prelude.{ℕ, List, [], ◌∷◌, ◌++◌, flat_map, map}
use Rattle.sql_values.specs.declared.types.SqlType.{SqlType}
use Rattle.sql_values.specs.declared.types.SqlType.TheVariants.{Bigint, Decimal}
use Rattle.sql_values.specs.declared.relational.Call.{Call}
use Rattle.sql_values.specs.declared.relational.Call.TheVariants.{CountAll, Count, Sum, Min, Max, Avg}
use Rattle.sql_values.specs.Texts.{scale_of}
use Rattle.sql_functions.specs.CallTypes.{type_at}

-- the type of a sum on the way, of as many digits as there can be
abbrev pub sum_layout : SqlType → SqlType
sum_layout kind = Decimal 38 (scale_of kind)

-- the types of the columns of a call over rows of these types
abbrev pub call_layout : List SqlType → Call → List SqlType
call_layout types CountAll = []
call_layout types (Count column) = Bigint ∷ []
call_layout types (Sum column) = sum_layout (type_at types column) ∷ []
call_layout types (Min column) = type_at types column ∷ []
call_layout types (Max column) = type_at types column ∷ []
call_layout types (Avg column) = sum_layout (type_at types column) ∷ Bigint ∷ []

-- keys of these types, the number of rows, and the columns of the calls
abbrev pub layout_types : List SqlType → List SqlType → List Call → List SqlType
layout_types kinds types calls = (kinds ++ Decimal 38 0 ∷ []) ++ flat_map (call_layout types) calls

-- the same by these columns as keys
abbrev pub partial_types : List SqlType → List ℕ → List Call → List SqlType
partial_types types keys calls = layout_types (map (type_at types) keys) types calls
