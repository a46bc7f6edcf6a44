-- What stands for the values of a form at positions of a page.
use Rattle.std.specs.Prelude.{◌≡◌, ℕ, ◌<◌, List, [], length, slice_index_or, Bool, true, false, Ok, All, IsTrue}
use Rattle.std.specs.List.{range_with_len}
use Rattle.sql_values.specs.declared.types.SqlType.{SqlType}
use Rattle.sql_values.specs.declared.value.Value.{Value}
use Rattle.sql_values.specs.declared.value.Value.TheVariants.{Null}
use Rattle.sql_values.specs.Cells.{lent_value}
use Rattle.sql_functions.specs.declared.name.CallName.{CallName}
use Rattle.sql_functions.specs.declared.name.CallName.TheVariants.{And, Or, Coalesce}
use Rattle.sql_functions.specs.Outcomes.{Outcome}
use Rattle.sql_functions.specs.Calls.{binary_of, unary_of}
use Rattle.sql_functions.specs.Casts.{cast_of}
use Rattle.sql_exprs.specs.Forms.{Form}
use Rattle.sql_exprs.specs.Meaning.{kind_of, value_of}
use Rattle.column_exprs.specs.declared.rows.Rows.{Rows}
use Rattle.column_exprs.specs.declared.operand.Operand.{Operand}
use Rattle.column_exprs.specs.declared.operand.Operand.TheVariants.{Lent, Made, Constant}

abbrev pub operand_kind : Operand → SqlType
operand_kind (Lent block) = block.now.kind
operand_kind (Made block) = block.kind
operand_kind (Constant kind value) = kind

-- the value at a place
abbrev pub operand_cell : Operand → ℕ → Value
operand_cell (Lent block) k = slice_index_or block.now.cells k Null
operand_cell (Made block) k = slice_index_or block.cells k Null
operand_cell (Constant kind value) k = lent_value value

-- a constant stands at each place
abbrev pub HasCells : Operand → ℕ → Type 0
HasCells (Lent block) count = length block.now.cells ≡ count
HasCells (Made block) count = length block.cells ≡ count
HasCells (Constant kind value) count = Unit {0}

abbrev pub HasPlace : Operand → ℕ → Type 0
HasPlace (Lent block) k = k < length block.now.cells
HasPlace (Made block) k = k < length block.cells
HasPlace (Constant kind value) k = Unit {0}

-- so many cells, each of which is the outcome at its place
pub record AreOutcomes (outcome : ℕ → Outcome) (count : ℕ) (cells : List Value) : Type 0 where
  pub len : length cells ≡ count
  pub each : (k : ℕ) → k < count → outcome k ≡ Ok (slice_index_or cells k Null)

-- the outcome of a form on the row at a place of the positions
abbrev pub outcome_at : Form → Rows → ℕ → Outcome
outcome_at form rows k =
    value_of rows.page.now.types form (slice_index_or rows.page.now.rows (slice_index_or rows.positions.now k 0) [])

-- positions of rows of the page; they may be known to be those of all rows
pub record AreRows (rows : Rows) : Type 0 where
  pub within : All (λ p. p < length rows.page.now.rows) rows.positions.now
  pub all : IsTrue rows.whole → rows.positions.now ≡ range_with_len 0 (length rows.page.now.rows)

-- the values of a form at the positions
pub record IsOperand (form : Form) (rows : Rows) (o : Operand) : Type 0 where
  pub kind : operand_kind o ≡ kind_of rows.page.now.types form
  pub cells : HasCells o (length rows.positions.now)
  pub each : (k : ℕ) → k < length rows.positions.now → outcome_at form rows k ≡ Ok (operand_cell o k)

-- calls that take the values of all their arguments
abbrev pub is_strict : CallName → Bool
is_strict And = false
is_strict Or = false
is_strict Coalesce = false
is_strict name = true

-- a call at a place of its arguments
abbrev pub unary_at : CallName → Operand → ℕ → Outcome
unary_at name a k = unary_of name (operand_kind a) (operand_cell a k)

abbrev pub binary_at : CallName → Operand → Operand → ℕ → Outcome
binary_at name a b k = binary_of name (operand_kind a) (operand_kind b) (operand_cell a k) (operand_cell b k)

abbrev pub cast_at : SqlType → Operand → ℕ → Outcome
cast_at kind a k = cast_of (operand_kind a) kind (operand_cell a k)
