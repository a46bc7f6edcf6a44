-- What a `BuildFilter` keeps.
use Rattle.std.specs.Prelude.{◌≡◌, ◌<◌, Bool, true, false, Option, Some, None, IsSome, length}
use Rattle.set_once.specs.Notes.{NoteState}
use Rattle.dyn_filter.specs.declared.domain.Domain.{Domain}
use Rattle.dyn_filter.specs.declared.domain.Domain.TheVariants.{Nothing}
use Rattle.dyn_filter.specs.Cells.{IsNoteOf, note_at}
use Rattle.driver_loop.specs.BuildFilters.{BuildFilterState}
use Rattle.driver_loop.specs.declared.build_filter.DomainProgress.{DomainProgress}
use Rattle.driver_loop.specs.declared.build_filter.DomainProgress.TheVariants.{Building, Frozen, Published}
use Rattle.driver_loop.specs.declared.build_filter.BuildFilter.TheInside.{Inside}

-- the domain that is built, or the one that the note knows once it was published
abbrev pub domain_built : DomainProgress → Option Domain → Domain
domain_built (Building builder) known = builder
domain_built (Frozen domain) known = domain
domain_built Published (Some domain) = domain
domain_built Published None = Nothing

abbrev pub is_domain_published : DomainProgress → Bool
is_domain_published (Building builder) = false
is_domain_published (Frozen domain) = false
is_domain_published Published = true

abbrev pub build_filter_view : Inside → BuildFilterState
build_filter_view f = record {
  column = f.column;
  part = f.part;
  bell = f.cell.now.bell;
  note = f.note;
  domain = domain_built f.progress (note_at f.note.parts f.part).known;
  is_published = is_domain_published f.progress;
}

-- what the note of its part may know
abbrev pub MayKnowDomain : DomainProgress → NoteState Domain → Type 0
MayKnowDomain (Building builder) note = note.refused ≡ 0 → note.known ≡ None
MayKnowDomain (Frozen domain) note = note.refused ≡ 0 → note.known ≡ None
MayKnowDomain Published note = IsSome note.known

pub record IsInBuildFilter (f : Inside) : Type 0 where
  pub of_cell : IsNoteOf f.cell.now.parts f.note
  pub within : f.part < length f.cell.now.parts
  pub may_know : MayKnowDomain f.progress (note_at f.note.parts f.part)
