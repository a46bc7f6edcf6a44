-- What the answer of a call of an operator says.
use Rattle.std.specs.Prelude.{◌<◌, ◌≤◌, ℕ, List, [], Option, Some, None, Result, Ok, Err, length}
use Rattle.col_pages.specs.Pages.{TypedPage}
use Rattle.operator_core.specs.declared.fault.OpFault.{OpFault}
use Rattle.operator_core.specs.declared.fault.OpFault.TheVariants.{Expr, Memory}
use Rattle.operator_core.specs.Rows.{Row}

-- memory sufficed: the call was Ok, or an expression failed
abbrev pub NotMemory : {A : Type 0} → Result A OpFault → Type 0
NotMemory (Ok x) = Unit {0}
NotMemory (Err (Expr node kind)) = Unit {0}
NotMemory (Err Memory) = ⊥

-- the rows that a call gave
abbrev pub gave : Result (Option TypedPage) OpFault → List Row
gave (Ok (Some page)) = page.rows
gave (Ok None) = []
gave (Err fault) = []

-- a page that was given has a row, and no more than `most`
abbrev pub IsFit : Result (Option TypedPage) OpFault → ℕ → Type 0
IsFit (Ok (Some page)) most = (0 < length page.rows) × (length page.rows ≤ most)
IsFit (Ok None) most = Unit {0}
IsFit (Err fault) most = Unit {0}
