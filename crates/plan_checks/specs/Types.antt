-- The texts of types.
use Rattle.std.specs.Prelude.{ℕ, List, Bool}
use Rattle.std.specs.Option.{is_some}
use Rattle.sql_values.specs.TypeTexts.{type_of_text}

-- the text names a type
abbrev pub is_type : List ℕ → Bool
is_type text = is_some (type_of_text text)
