-- What a judge makes of rows that are judged in order, up to the first one that fails.
use Rattle.std.specs.Prelude.{◌≡◌, ℕ, List, [], ◌∷◌, take, drop, map, Option, Some, None}
use Rattle.sql_values.specs.declared.types.SqlType.{SqlType}
use Rattle.sql_values.specs.declared.value.Value.{Value}
use Rattle.sql_values.specs.declared.fail.Fail.{Fail}
use Rattle.relation_laws.specs.Verdicts.{Verdict, keeps, drops, fails, failures, kept_rows}
use Rattle.page_processor.specs.declared.judged.Judged.{Judged}

-- the rows of a first verdict and of the later ones
abbrev pub given_first : Verdict → List (List Value) → List (List Value)
given_first (keeps row) later = row ∷ later
given_first drops later = later
given_first (fails kind) later = []

-- the rows that are kept before the first row that fails
abbrev pub rows_before : (List Value → Verdict) → List (List Value) → List (List Value)
rows_before judge [] = []
rows_before judge (row ∷ rows) = given_first (judge row) (rows_before judge rows)

abbrev pub failed_first : Verdict → Option Fail → Option Fail
failed_first (keeps row) later = later
failed_first drops later = later
failed_first (fails kind) later = Some kind

-- the failure of the first row that fails
abbrev pub first_failure : (List Value → Verdict) → List (List Value) → Option Fail
first_failure judge [] = None
first_failure judge (row ∷ rows) = failed_first (judge row) (first_failure judge rows)

-- a page of these types has what is kept before the first failure, and that failure
abbrev pub judged : (List Value → Verdict) → List SqlType → List (List Value) → Judged
judged judge types rows = record { page = record { types = types; rows = rows_before judge rows }; failure = first_failure judge rows }

-- all rows were judged, or the first of the others fails with this kind
abbrev pub StopsAt : (List Value → Verdict) → List (List Value) → Option Fail → Type 0
StopsAt judge rest None = rest ≡ []
StopsAt judge rest (Some kind) = (row : List Value) × (later : List (List Value)) × (rest ≡ row ∷ later) × (judge row ≡ fails kind)

-- so many rows were judged and none of them fails: those that are kept are given
pub record IsJudged (judge : List Value → Verdict) (rows given : List (List Value)) (failure : Option Fail) : Type 0 where
  pub count : ℕ
  pub calm : failures (map judge (take count rows)) ≡ 0
  pub are_kept : given ≡ kept_rows judge (take count rows)
  pub stops : StopsAt judge (drop count rows) failure
