-- The values of a form at positions of a page, as cells of one block.
use Rattle.std.specs.Prelude.{◌≡◌, ℕ, List, [], ◌∷◌, if◌then◌else◌, slice_index_or, Result, Ok, Err}
use Rattle.sql_values.specs.declared.types.SqlType.{SqlType}
use Rattle.sql_values.specs.declared.value.Value.{Value}
use Rattle.sql_values.specs.declared.value.Value.TheVariants.{Null}
use Rattle.sql_values.specs.declared.fail.Fail.{Fail}
use Rattle.sql_values.specs.Blocks.{fits}
use Rattle.sql_functions.specs.Outcomes.{Outcome, and_then}
use Rattle.sql_exprs.specs.declared.page.PageFault.{PageFault}
use Rattle.sql_exprs.specs.declared.page.PageFault.TheVariants as fault
use Rattle.sql_exprs.specs.Forms.{Form}
use Rattle.sql_exprs.specs.Meaning.{kind_of, value_of}

-- the value as a block of the type takes it: NULL where it has another variant
abbrev pub in_block : SqlType → Value → Value
in_block kind v = if fits kind v then v else Null

-- the cell at a position, or its failure; past the last row all columns are NULL
abbrev pub cell_at : List SqlType → Form → List (List Value) → ℕ → Outcome
cell_at types form rows position =
    and_then (value_of types form (slice_index_or rows position []))
    (λ v. Ok (in_block (kind_of types form) v))

-- one more cell before the others, and the failure at the earlier position where there are two
abbrev pub cell_before :
    ℕ → Outcome → Result (List Value) (ℕ × Fail) → Result (List Value) (ℕ × Fail)
cell_before position (Ok v) (Ok cells) = Ok (v ∷ cells)
cell_before position (Ok v) (Err failure) = Err failure
cell_before position (Err kind) rest = Err (position, kind)

-- the cells at the positions, in their order, or the first position at which the form fails
abbrev pub cells_at :
    List SqlType → Form → List (List Value) → List ℕ → Result (List Value) (ℕ × Fail)
cells_at types form rows [] = Ok []
cells_at types form rows (position ∷ positions) =
    cell_before position (cell_at types form rows position) (cells_at types form rows positions)

-- the fault names the position and its failure, or memory was wanting
abbrev pub FaultIsAt : Result (List Value) (ℕ × Fail) → PageFault → Type 0
FaultIsAt cells (fault.At position kind) = cells ≡ Err (position, kind)
FaultIsAt cells fault.Memory = Unit {0}

-- the same of one position
abbrev pub FailsHere : ℕ → Outcome → PageFault → Type 0
FailsHere here outcome (fault.At position kind) = (position ≡ here) × (outcome ≡ Err kind)
FailsHere here outcome fault.Memory = Unit {0}
