-- The cells in which pipes publish, by the place of the pipe and then by a place of their own.
use Rattle.std.specs.Prelude.{◌≡◌, ℕ, List, [], Option, Some, slice_get, unwrap_or}
use Rattle.hash_join.specs.Cells.{CellState}
use Rattle.dyn_filter.specs.Cells as filter
use Rattle.driver_net_laws.specs.Cells.{IsNamed}
use Rattle.driver_net_laws.specs.Nets.{Links}

-- that of a pipe at a place of its own
abbrev pub cell_at : {C : Type 0} → List (List C) → ℕ → ℕ → Option C
cell_at cells at place = slice_get (unwrap_or (slice_get cells at) []) place

-- these are the cells of joins, by tasks, of what drivers share
abbrev pub HasCells : Links → List (List CellState) → Type 0
HasCells links cells = (at task : ℕ) (cell : CellState) → cell_at cells at task ≡ Some cell
    → (links.cells at task ≡ cell.bell) × IsNamed links.names cell

-- these are the cells of dynamic filters, by their places in the join, of what drivers share
abbrev pub HasFilterCells : Links → List (List filter.CellState) → Type 0
HasFilterCells links cells = (at place : ℕ) (cell : filter.CellState) → cell_at cells at place ≡ Some cell
    → (links.filters at place ≡ cell.bell) × (links.parts cell.bell ≡ cell.parts)
