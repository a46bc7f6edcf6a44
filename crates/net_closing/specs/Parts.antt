-- What is known of the parts of the cell of a dynamic filter.
use Rattle.std.specs.Prelude.{◌≡◌, ℕ, Some}
use Rattle.dyn_filter.specs.declared.domain.Domain.{Domain}
use Rattle.dyn_filter.specs.Cells.{NotesState, note_at}

-- the second note knows what the first knows of a part, and found no other domain there
abbrev pub KnowsPart : NotesState → NotesState → ℕ → Type 0
KnowsPart look build part =
    (domain : Domain) → (note_at look.parts part).known ≡ Some domain → ((note_at build.parts part).known ≡ Some domain) × ((note_at build.parts part).refused ≡ 0)
