-- What the laws say.
use Rattle.std.specs.Prelude.{List, [], ◌∷◌, Ok}
use Rattle.sql_values.specs.declared.value.Value.{Value}
use Rattle.sql_functions.specs.Outcomes.{Outcome}

-- the outcomes of arguments that all have values
abbrev pub found : List Value → List Outcome
found [] = []
found (v ∷ vs) = Ok v ∷ found vs
