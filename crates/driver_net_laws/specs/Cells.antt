-- The cells in which the right sides of joins are published, and who looks into them.
use Rattle.std.specs.Prelude.{◌≡◌, ℕ, List, [], ◌∷◌, ◌++◌, All, Some, flat_map}
use Rattle.join_index.specs.Keys.{IndexedRows}
use Rattle.hash_join.specs.Cells.{CellState}
use Rattle.driver_loop.specs.Drivers.{DriverState}
use Rattle.driver_loop.specs.declared.pieces.CellNote.{CellNote}
use Rattle.driver_loop.specs.declared.stage.Stage.{Stage}
use Rattle.driver_loop.specs.declared.stage.Stage.TheVariants.{Probe}
use Rattle.driver_loop.specs.declared.target.Target.{Target}
use Rattle.driver_loop.specs.declared.target.Target.TheVariants.{Build, Deal, Put, Result}

-- the cell's name, by the number of its bell
abbrev pub Names : Type 0
Names = ℕ → ℕ

abbrev pub IsNamed : Names → CellState → Type 0
IsNamed names cell = cell.name ≡ names cell.bell

-- the number of the bell, and the name, of the cell of a join that a stage looks into, if it does
abbrev pub cell_of : Stage → List (ℕ × ℕ)
cell_of (Probe op types) = (op.bell, op.note.cell) ∷ []
cell_of stage = []

-- and of the one in which a target publishes
abbrev pub target_cell : Target → List (ℕ × ℕ)
target_cell (Result result) = []
target_cell (Build b) = (b.bell, b.note.cell) ∷ []
target_cell (Put put) = []
target_cell (Deal deal) = []

abbrev pub cells_of : DriverState → List (ℕ × ℕ)
cells_of d = flat_map cell_of d.stages ++ target_cell d.target

-- cells with the same bell are the same
abbrev pub AreNamed : List DriverState → Type 0
AreNamed drivers = (names : Names) × All (λ (c : ℕ × ℕ). c.1 ≡ names c.0) (flat_map cells_of drivers)

-- whoever publishes in the cell knows what one who looks into it knows, and found no other source there
abbrev pub LearnedFrom : CellNote → CellNote → Type 0
LearnedFrom look build =
    build.bell ≡ look.bell → (source : IndexedRows) → look.note.known ≡ Some source → (build.note.known ≡ Some source) × (build.note.refused ≡ 0)

abbrev pub AllLearnedFrom : List CellNote → List CellNote → Type 0
AllLearnedFrom looks builds = All (λ look. All (LearnedFrom look) builds) looks

-- notes with the same bell are of one cell
abbrev pub AreOfCells : List CellNote → List CellNote → Type 0
AreOfCells looks builds = All (λ (look : CellNote). All (λ (build : CellNote). build.bell ≡ look.bell → build.note.cell ≡ look.note.cell) builds) looks
