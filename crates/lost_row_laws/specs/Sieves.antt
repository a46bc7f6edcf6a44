-- Which rows a scan may leave out: those of which a value in some column can't have a partner in a join above.
use Rattle.std.specs.Prelude.{◌≡◌, ℕ, List, [], ◌∷◌, length, Bool, true, false, not, ◌&&◌, ◌||◌, nat_lt, Option, Some, None}
use Rattle.sql_values.specs.declared.types.SqlType.{SqlType}
use Rattle.sql_values.specs.declared.value.Value.{Value}
use Rattle.sql_values.specs.Cells.{cell}
use Rattle.sql_values.specs.ColumnRows.{fits_row}
use Rattle.plan_trees.specs.Allowed.{Mode, skipping, strict}
use Rattle.plan_trees.specs.Steps.{StepForm, filter, project}
use Rattle.column_origins.specs.Origins.{passed_by}

-- a column of a node's rows, and which of its values pass
pub record Sieve : Type 0 where
  pub column : ℕ
  pub pass : Value → Bool

-- the row has the column, and its value there does not pass
abbrev pub holds_back : Sieve → List Value → Bool
holds_back s row = nat_lt s.column (length row) && not (s.pass (cell row s.column))

-- some sieve holds the row back
abbrev pub is_held : List Sieve → List Value → Bool
is_held [] row = false
is_held (s ∷ sieves) row = holds_back s row || is_held sieves row

-- where no row may fail, rows have to fit the types, so that what is calm fails on none
abbrev pub fits_in : Mode → List SqlType → List Value → Bool
fits_in strict types row = fits_row types row
fits_in skipping types row = true

-- a row that may be lost
abbrev pub is_lost : Mode → List Sieve → List SqlType → List Value → Bool
is_lost mode sieves types row = fits_in mode types row && is_held sieves row

abbrev pub sieve_at : Option ℕ → Sieve → List Sieve → List Sieve
sieve_at None s sieves = sieves
sieve_at (Some column) s sieves = record { column = column; pass = s.pass } ∷ sieves

-- the sieves over the columns of an input, where `comes` says from which of them a column comes, if from any
abbrev pub over_input : (ℕ → Option ℕ) → List Sieve → List Sieve
over_input comes [] = []
over_input comes (s ∷ sieves) = sieve_at (comes s.column) s (over_input comes sieves)

-- the sieves that a step hands down: none goes below what can fail, or what gives other rows than it takes
abbrev pub under : List SqlType → StepForm → List Sieve → List Sieve
under types s sieves = over_input (passed_by s types) sieves

-- below what goes row by row any sieves may have lost rows, below the others none
abbrev pub MayLose : StepForm → List Sieve → Type 0
MayLose (filter predicate) sieves = Unit {0}
MayLose (project columns) sieves = Unit {0}
MayLose s sieves = sieves ≡ []
