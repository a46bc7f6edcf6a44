-- A value that is lent or made.
use Rattle.sql_values.specs.declared.value.Value.{Value}
use Rattle.sql_values.specs.Cells.{lent_value}
use Rattle.sql_exprs.specs.declared.held.Held.{Held}
use Rattle.sql_exprs.specs.declared.held.Held.TheVariants.{Lent, Made}

abbrev pub held_value : Held → Value
held_value (Lent v) = lent_value v
held_value (Made v) = v
