-- Cells of one type, and which values may stand among them.
use Rattle.std.specs.Prelude.{List, [], ◌∷◌, ◌++◌, ℕ, ◌≡◌, All, Bool, true, false, Option, Some, None}
use Rattle.columns.specs.Present.{gather}
use Rattle.sql_values.specs.declared.types.SqlType.{SqlType}
use Rattle.sql_values.specs.declared.types.SqlType.TheVariants.{Boolean, Bigint, Decimal, Varchar, Date}
use Rattle.sql_values.specs.declared.value.Value.{Value}
use Rattle.sql_values.specs.declared.value.Value.TheVariants as value

pub record TypedCells : Type 0 where
  pub kind : SqlType
  pub cells : List Value

abbrev pub is_decimal : Value → Bool
is_decimal value.Null = true
is_decimal (value.Decimal unscaled) = true
is_decimal v = false

-- whether a value has the variant of a type; NULL has each
abbrev pub fits : SqlType → Value → Bool
fits (Decimal p s) v = is_decimal v
fits kind value.Null = true
fits Boolean (value.Boolean truth) = true
fits Bigint (value.Bigint n) = true
fits Varchar (value.Varchar text) = true
fits Date (value.Date day) = true
fits kind v = false

-- whether a type is a decimal one
abbrev pub has_decimals : SqlType → Bool
has_decimals (Decimal p s) = true
has_decimals kind = false

-- the cells after a value was offered: with it at their end where it was taken
abbrev pub offered : Bool → List Value → Value → List Value
offered true cells v = cells ++ v ∷ []
offered false cells v = cells

abbrev pub with_cells : TypedCells → List Value → TypedCells
with_cells block cells = record { kind = block.kind; cells = cells }

-- an item as a value of its variant, one that is missing as NULL
abbrev pub or_null : {A : Type 0} → (A → Value) → Option A → Value
or_null f None = value.Null
or_null f (Some item) = f item

-- the cells at the places, in the places' order
abbrev pub chosen : TypedCells → List ℕ → TypedCells
chosen block places = with_cells block (gather block.cells value.Null places)

abbrev pub AreAll : Value → List Value → Type 0
AreAll v cells = All (λ cell. cell ≡ v) cells
