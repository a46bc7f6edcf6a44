-- The cells of dynamic filters: who publishes a domain in a part, and what one who looks knows of it.
use Rattle.std.specs.Prelude.{◌≡◌, ℕ, List, All, Some, map}
use Rattle.dyn_filter.specs.declared.domain.Domain.{Domain}
use Rattle.dyn_filter.specs.Cells.{note_at}
use Rattle.driver_loop.specs.declared.pieces.FilterCellNote.{FilterCellNote}

-- whoever publishes in a part of the cell knows what one who looks knows of that part, and found no other domain there
abbrev pub LearnedPart : FilterCellNote → FilterCellNote → Type 0
LearnedPart look build =
    build.bell ≡ look.bell → (part : ℕ) → build.part ≡ Some part → (domain : Domain) → (note_at look.note.parts part).known ≡ Some domain
    → ((note_at build.note.parts part).known ≡ Some domain) × ((note_at build.note.parts part).refused ≡ 0)

abbrev pub AllPartsLearnedFrom : List FilterCellNote → List FilterCellNote → Type 0
AllPartsLearnedFrom looks builds = All (λ look. All (LearnedPart look) builds) looks

-- the names of the parts that the note is of
abbrev pub part_names : FilterCellNote → List ℕ
part_names own = map (λ n. n.cell) own.note.parts

-- notes with the same bell are of one cell
abbrev pub AreOfFilterCells : List FilterCellNote → List FilterCellNote → Type 0
AreOfFilterCells looks builds =
    All (λ (look : FilterCellNote). All (λ (build : FilterCellNote). build.bell ≡ look.bell → part_names build ≡ part_names look) builds) looks
