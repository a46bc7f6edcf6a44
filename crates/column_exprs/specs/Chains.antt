-- Calls that take a later argument only where the value so far leaves it needed: AND, OR and COALESCE.
use Rattle.std.specs.Prelude.{◌≡◌, ◌<◌, ℕ, List, [], ◌∷◌, length, slice_index_or, true, false, Ok, if◌then◌else◌}
use Rattle.sql_values.specs.declared.types.SqlType.{SqlType}
use Rattle.sql_values.specs.declared.value.Value.{Value}
use Rattle.sql_values.specs.declared.value.Value.TheVariants as value
use Rattle.sql_functions.specs.declared.name.CallName.{CallName}
use Rattle.sql_functions.specs.declared.name.CallName.TheVariants as call
use Rattle.sql_functions.specs.Outcomes.{Outcome, and_then}
use Rattle.sql_functions.specs.Truth.{truth_and, truth_or}
use Rattle.sql_exprs.specs.Forms.{Forms}
use Rattle.sql_exprs.specs.Meaning.{values_of}
use Rattle.column_exprs.specs.declared.chain.Chain.{Chain}
use Rattle.column_exprs.specs.declared.chain.Chain.TheVariants.{And, Or, Coalesce}
use Rattle.column_exprs.specs.declared.kept.Test.{Test}
use Rattle.column_exprs.specs.declared.kept.Test.TheVariants.{NotFalse, NotTrue, Null}
use Rattle.column_exprs.specs.declared.rows.Rows.{Rows}
use Rattle.column_exprs.specs.declared.operand.Operand.{Operand}
use Rattle.column_exprs.specs.Kept.{kept, meets}
use Rattle.column_exprs.specs.Operands.{HasCells, operand_cell, operand_kind}

abbrev pub chain_name : Chain → CallName
chain_name And = call.And
chain_name Or = call.Or
chain_name Coalesce = call.Coalesce

-- the value before the first argument, which settles nothing
abbrev pub chain_start : Chain → Value
chain_start And = value.Boolean true
chain_start Or = value.Boolean false
chain_start Coalesce = value.Null

-- a later argument is needed where the value so far meets this
abbrev pub chain_test : Chain → Test
chain_test And = NotFalse
chain_test Or = NotTrue
chain_test Coalesce = Null

-- what becomes of the value so far and a later one that was needed
abbrev pub joined : Chain → Value → Value → Value
joined And v w = truth_and v w
joined Or v w = truth_or v w
joined Coalesce v w = w

-- the value so far with one more outcome; what needs none keeps its value
abbrev pub stepped : Chain → Value → Outcome → Outcome
stepped chain v o = if meets (chain_test chain) v then and_then o (λ w. Ok (joined chain v w)) else Ok v

-- the value so far, and then the outcomes that it needs
abbrev pub chained : Chain → Value → List Outcome → Outcome
chained chain v [] = Ok v
chained chain v (o ∷ os) = and_then (stepped chain v o) (λ w. chained chain w os)

-- with the cell of a later operand, which has one for each place that needs it
abbrev pub joined_at : Chain → Operand → Operand → List ℕ → ℕ → Outcome
joined_at chain a b positions k =
    stepped chain (operand_cell a k) (Ok (operand_cell b (length (kept (chain_test chain) (operand_cell a) positions k))))

-- the outcomes of forms on the row at a place of the positions
abbrev pub outcomes_at : Forms → Rows → ℕ → List Outcome
outcomes_at forms rows k =
    values_of rows.page.now.types forms (slice_index_or rows.page.now.rows (slice_index_or rows.positions.now k 0) [])

-- the values so far have become those with the forms behind them
pub record GoesOn (chain : Chain) (kind : SqlType) (forms : Forms) (rows : Rows) (so_far o : Operand) : Type 0 where
  pub kind_is : operand_kind o ≡ kind
  pub cells : HasCells o (length rows.positions.now)
  pub each : (k : ℕ) → k < length rows.positions.now
      → chained chain (operand_cell so_far k) (outcomes_at forms rows k) ≡ Ok (operand_cell o k)
