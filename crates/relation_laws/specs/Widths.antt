-- How many values rows have.
use Rattle.std.specs.Prelude.{◌≡◌, ℕ, List, length, All}
use Rattle.sql_values.specs.declared.value.Value.{Value}

abbrev pub HaveWidth : ℕ → List (List Value) → Type 0
HaveWidth width rows = All (λ row. length row ≡ width) rows
