-- What a filter and a project say of each row of their input, whose columns have the types.
use Rattle.std.specs.Prelude.{List, map, if◌then◌else◌, Ok, Err}
use Rattle.sql_values.specs.declared.types.SqlType.{SqlType}
use Rattle.sql_values.specs.declared.value.Value.{Value}
use Rattle.sql_functions.specs.Outcomes.{Outcome}
use Rattle.sql_functions.specs.Truth.{is_true}
use Rattle.sql_exprs.specs.Forms.{Form}
use Rattle.sql_exprs.specs.Meaning.{value_of}
use Rattle.relation_laws.specs.Aggregates.{all_values}
use Rattle.relation_laws.specs.Verdicts.{Verdict, keeps, drops, fails, verdict_of}

-- a row is kept where the predicate is TRUE, and neither where it is FALSE nor where it is NULL
abbrev pub filtered : List Value → Outcome → Verdict
filtered row (Ok v) = if is_true v then keeps row else drops
filtered row (Err kind) = fails kind

abbrev pub filter_judge : List SqlType → Form → List Value → Verdict
filter_judge types predicate row = filtered row (value_of types predicate row)

-- the values of the columns, from the left, or the first failure
abbrev pub project_judge : List SqlType → List Form → List Value → Verdict
project_judge types columns row = verdict_of (all_values (map (λ column. value_of types column row) columns))
