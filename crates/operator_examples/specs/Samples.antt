-- What the four operators may give.
use Rattle.std.specs.Prelude.{◌≡◌, ℕ, ◌⊎◌, List, [], ◌∷◌, ◌++◌, Bool, true, false, ◌||◌, if◌then◌else◌, Option, Some, None, suc, zero, take, ◌-◌, nat_le}
use Rattle.sql_values.specs.declared.value.Value.{Value}
use Rattle.sql_values.specs.declared.value.Value.TheVariants.{Null}
use Rattle.sql_values.specs.Cells.{cell}
use Rattle.operator_core.specs.Rows.{Row}

abbrev pub is_null : Value → Bool
is_null Null = true
is_null value = false

-- the rows before the first whose column is NULL
abbrev pub before_null : ℕ → List Row → List Row
before_null column [] = []
before_null column (row ∷ rows) = if is_null (cell row column) then [] else row ∷ before_null column rows

abbrev pub has_null : ℕ → List Row → Bool
has_null column [] = false
has_null column (row ∷ rows) = is_null (cell row column) || has_null column rows

-- what a note holds: the bell that rings once its number is there, the number that it knows, how many looks
-- found nothing, and the count that the last of these was handed
pub record NoteState : Type 0 where
  pub bell : ℕ
  pub known : Option ℕ
  pub empty_looks : ℕ
  pub looked_at : ℕ

-- the note as it was made, with what it knows
abbrev pub unlooked : ℕ → Option ℕ → NoteState
unlooked bell known = record { bell = bell; known = known; empty_looks = 0; looked_at = 0 }

-- the number that the note knows, or any where it knows none
abbrev pub IsNumber : Option ℕ → ℕ → Type 0
IsNumber (Some n) number = number ≡ n
IsNumber None number = Unit {0}

-- the note knows its number, and as many rows have passed
abbrev pub is_reached : Option ℕ → ℕ → Bool
is_reached (Some n) passed = nat_le n passed
is_reached None passed = false

-- the note knows that rows are still wanted
abbrev pub AreWanted : Option ℕ → Type 0
AreWanted (Some zero) = ⊥
AreWanted (Some (suc n)) = Unit {0}
AreWanted None = ⊥

-- some of the rows, in their order
abbrev pub IsPartOf : List Row → List Row → Type 0
IsPartOf part [] = part ≡ []
IsPartOf part (row ∷ rows) = IsPartOf part rows ⊎ ((rest : List Row) × (part ≡ row ∷ rest) × IsPartOf rest rows)

-- what `NotedLimit` may give: what it holds, and then the first rows that are still to pass
abbrev pub LimitGives : Option ℕ → ℕ → List Row → List Row → List Row → Type 0
LimitGives known passed held X B = (n : ℕ) × IsNumber known n × (B ≡ held ++ take (n - passed) X)

-- what `WhileWanted` may give: what it holds, and then some of the rows, all where they are wanted
abbrev pub WantedGives : Option ℕ → List Row → List Row → List Row → Type 0
WantedGives known held X B = (Y : List Row) × (B ≡ held ++ Y) × IsPartOf Y X × (AreWanted known → Y ≡ X)
