-- The rows that go into an operator and come out of it.
use Rattle.std.specs.Prelude.{◌≡◌, List, [], Bool, true, false}
use Rattle.sql_values.specs.declared.value.Value.{Value}

abbrev pub Row : Type 0
Row = List Value

-- rows that may still come: any until the operator was told to finish, and then none
abbrev pub Coming : Bool → List Row → Type 0
Coming false rows = Unit {0}
Coming true rows = rows ≡ []
