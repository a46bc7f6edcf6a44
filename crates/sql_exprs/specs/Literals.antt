-- Which values a literal of a type may hold: those of the type, but not NULL.
use Rattle.std.specs.Prelude.{Bool, not, ◌&&◌}
use Rattle.sql_values.specs.declared.types.SqlType.{SqlType}
use Rattle.sql_values.specs.declared.value.Value.{Value}
use Rattle.sql_values.specs.Types.{has_type}
use Rattle.sql_functions.specs.Truth.{is_null}

abbrev pub is_value_of : SqlType → Value → Bool
is_value_of kind v = not (is_null v) && has_type kind v
