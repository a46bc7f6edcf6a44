-- Outcomes at positions, up to the first that fails.
use Rattle.std.specs.Prelude.{ℕ, ◌+◌, List, [], ◌∷◌, map, ◌==◌, if◌then◌else◌, Option, Some, None, Ok, Err}
use Rattle.sql_values.specs.declared.types.SqlType.{SqlType}
use Rattle.sql_values.specs.declared.value.Value.{Value}
use Rattle.sql_values.specs.declared.value.Value.TheVariants.{Null}
use Rattle.sql_values.specs.declared.fail.Fail.{Fail}
use Rattle.sql_values.specs.Blocks.{TypedCells}
use Rattle.sql_functions.specs.Outcomes.{Outcome}
use Rattle.sql_functions.specs.Truth.{is_true}
use Rattle.sql_exprs.specs.Forms.{Form}
use Rattle.sql_exprs.specs.Meaning.{kind_of}
use Rattle.sql_exprs.specs.Pages.{cell_at}
use Rattle.page_processor.specs.declared.values.Values.{Values}

abbrev pub first_position : Outcome → ℕ → List ℕ → List ℕ
first_position (Ok v) position later = position ∷ later
first_position (Err kind) position later = []

-- the positions before the first that fails
abbrev pub calm_positions : (ℕ → Outcome) → List ℕ → List ℕ
calm_positions outcome [] = []
calm_positions outcome (position ∷ positions) = first_position (outcome position) position (calm_positions outcome positions)

abbrev pub failure_or : Outcome → Option Fail → Option Fail
failure_or (Ok v) later = later
failure_or (Err kind) later = Some kind

-- the first failure
abbrev pub failure_in : (ℕ → Outcome) → List ℕ → Option Fail
failure_in outcome [] = None
failure_in outcome (position ∷ positions) = failure_or (outcome position) (failure_in outcome positions)

abbrev pub value_or_null : Outcome → Value
value_or_null (Ok v) = v
value_or_null (Err kind) = Null

-- the values of a form at positions of a page with these rows, as a block
abbrev pub block_at : List SqlType → List (List Value) → List ℕ → Form → TypedCells
block_at types rows positions form =
    record { kind = kind_of types form; cells = map (λ position. value_or_null (cell_at types form rows position)) positions }

abbrev pub values_at : List SqlType → List (List Value) → List ℕ → Form → Values
values_at types rows positions form = record {
  block = block_at types rows (calm_positions (cell_at types form rows) positions) form;
  failure = failure_in (cell_at types form rows) positions;
}

-- the index of the first position that is this one
abbrev pub index_of : ℕ → List ℕ → ℕ
index_of position [] = 0
index_of position (other ∷ others) = if other == position then 0 else index_of position others + 1

-- the positions at which the cell is TRUE
abbrev pub true_at : List Value → List ℕ → List ℕ
true_at (v ∷ vs) (position ∷ positions) = if is_true v then position ∷ true_at vs positions else true_at vs positions
true_at vs positions = []
