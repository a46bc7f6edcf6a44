-- The notes of drivers that were taken apart.
use Rattle.std.specs.Prelude.{◌≡◌, List, [], ◌∷◌, ◌++◌, Bool, true, false, All, is_some}
use Rattle.driver_loop.specs.Drivers.{DriverState, IsWhole}
use Rattle.driver_loop.specs.declared.pieces.CellNote.{CellNote}
use Rattle.driver_loop.specs.declared.pieces.FilterCellNote.{FilterCellNote}
use Rattle.driver_net_laws.specs.Settled.{builds_of, filter_builds_of, filter_looks_of, looks_of}
use Rattle.net_closing.specs.declared.notes.Notes.{Notes}

abbrev pub AreWholeDrivers : List DriverState → Type 0
AreWholeDrivers drivers = All (λ (d : DriverState). IsWhole d.fault) drivers

-- one note, or none
abbrev pub IsOneIf : Bool → List CellNote → Type 0
IsOneIf true notes = (note : CellNote) × (notes ≡ note ∷ [])
IsOneIf false notes = notes ≡ []

-- the note is of one who publishes in a part of the cell of a dynamic filter
abbrev pub publishes : FilterCellNote → Bool
publishes note = is_some note.part

-- there is none yet
pub record AreNone (notes : Notes) : Type 0 where
  pub looks : notes.looks.items ≡ []
  pub builds : notes.builds.items ≡ []
  pub filter_looks : notes.filter_looks.items ≡ []
  pub filter_builds : notes.filter_builds.items ≡ []

-- those of drivers were kept
pub record HaveKept (old new : Notes) (drivers : List DriverState) : Type 0 where
  pub looks : new.looks.items ≡ old.looks.items ++ looks_of drivers
  pub builds : new.builds.items ≡ old.builds.items ++ builds_of drivers
  pub filter_looks : new.filter_looks.items ≡ old.filter_looks.items ++ filter_looks_of drivers
  pub filter_builds : new.filter_builds.items ≡ old.filter_builds.items ++ filter_builds_of drivers
