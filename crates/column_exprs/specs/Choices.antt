-- A case: its branches one after the other, each at the rows that no condition before it chose.
use Rattle.std.specs.Prelude.{◌≡◌, ◌<◌, ℕ, List, [], length, replicate, slice_index_or, All, IsTrue}
use Rattle.std.specs.List.{range_with_len}
use Rattle.sql_values.specs.declared.value.Value.{Value}
use Rattle.sql_values.specs.Cells.{lent_value}
use Rattle.col_pages.specs.Pages.{TypedPage}
use Rattle.sql_functions.specs.Outcomes.{Outcome}
use Rattle.sql_exprs.specs.Forms.{Choices, Form, branch, choice}
use Rattle.sql_exprs.specs.Meaning.{kind_of, value_of}
use Rattle.column_exprs.specs.declared.choice.Choice.{Choice}
use Rattle.column_exprs.specs.declared.choice.Settled.{Settled}
use Rattle.column_exprs.specs.declared.choice.Unsettled.{Unsettled}
use Rattle.column_exprs.specs.declared.operand.Operand.{Operand}
use Rattle.column_exprs.specs.declared.operand.Operand.TheVariants.{Lent, Made, Constant}
use Rattle.column_exprs.specs.Operands.{AreOutcomes}

-- the outcome of a form on the row at a position of a page
abbrev pub outcome_on : Form → TypedPage → ℕ → Outcome
outcome_on form page p = value_of page.types form (slice_index_or page.rows p [])

-- at each of the positions a form has the outcome of what is left of it
abbrev pub AreLeft : Form → Form → TypedPage → List ℕ → Type 0
AreLeft form left page positions = All (λ p. outcome_on form page p ≡ outcome_on left page p) positions

-- the values beside the positions are those of a form
pub record AreSettled (form : Form) (page : TypedPage) (s : Settled) : Type 0 where
  pub kind : s.values.kind ≡ kind_of page.types form
  pub values : AreOutcomes (λ k. outcome_on form page (slice_index_or s.positions.items k 0)) (length s.positions.items) s.values.cells

-- positions of rows of the page; they may be known to be those of all rows
pub record AreUnsettled (page : TypedPage) (u : Unsettled) : Type 0 where
  pub within : All (λ p. p < length page.rows) u.positions.items
  pub all : IsTrue u.whole → u.positions.items ≡ range_with_len 0 (length page.rows)

-- of a form some rows have their values, and for the others something of it is left
pub record IsChoice (form left : Form) (page : TypedPage) (c : Choice) : Type 0 where
  pub settled : AreSettled form page c.settled
  pub unsettled : AreUnsettled page c.unsettled
  pub same : AreLeft form left page c.unsettled.positions.items

-- what is left loses its first branch
abbrev pub TakesBranch : Form → Form → TypedPage → Settled → List ℕ → Choice → Type 0
TakesBranch test result page settled positions next =
    (form other : Form) (rest : Choices) → AreSettled form page settled
    → AreLeft form (choice (branch test result rest) other) page positions → IsChoice form (choice rest other) page next

-- the values that an operand gives at so many places
abbrev pub operand_cells : Operand → ℕ → List Value
operand_cells (Lent block) count = block.now.cells
operand_cells (Made block) count = block.cells
operand_cells (Constant kind value) count = replicate count (lent_value value)

-- for each of the first so many positions a place at which it stands among those that are settled
pub record ArePlaces (settled positions : List ℕ) (count : ℕ) (places : List ℕ) : Type 0 where
  pub len : length places ≡ count
  pub within : All (λ p. p < length settled) places
  pub each : (k : ℕ) → k < count → slice_index_or settled (slice_index_or places k 0) 0 ≡ slice_index_or positions k 0
