-- What an operator says of a row, or of a group: the row that it gives for it, that it gives none,
-- or why it fails.
use Rattle.std.specs.Prelude.{List, [], ◌∷◌, flat_map, count_by, Bool, true, false, ℕ, Result, Ok, Err}
use Rattle.sql_values.specs.declared.value.Value.{Value}
use Rattle.sql_values.specs.declared.fail.Fail.{Fail}

pub data Verdict : Type 0 where
  keeps : List Value → Verdict
  drops : Verdict
  fails : Fail → Verdict

abbrev pub kept : Verdict → List (List Value)
kept (keeps row) = row ∷ []
kept drops = []
kept (fails kind) = []

abbrev pub is_failure : Verdict → Bool
is_failure (keeps row) = false
is_failure drops = false
is_failure (fails kind) = true

abbrev pub failures : List Verdict → ℕ
failures verdicts = count_by is_failure verdicts

-- the rows that are given, in order
abbrev pub kept_rows : (List Value → Verdict) → List (List Value) → List (List Value)
kept_rows judge rows = flat_map (λ row. kept (judge row)) rows

-- a row of these values, or why there is none
abbrev pub verdict_of : Result (List Value) Fail → Verdict
verdict_of (Ok row) = keeps row
verdict_of (Err kind) = fails kind
