-- Filters of the join whose right side a target builds: the domain of a column, published in a part of the filter's cell.
use Rattle.std.specs.Prelude.{◌≡◌, ℕ, List, Bool, true, false, not, All, Option, Some, None, cond, find, map, min, slice_set, sum_by}
use Rattle.blocked.specs.Rings.{rings_at}
use Rattle.blocked.specs.declared.blocked_on.BlockedOn.{BlockedOn}
use Rattle.count_laws.specs.Counts.{Rose, most_count, next_count}
use Rattle.set_once.specs.Answers.{MayLearn}
use Rattle.set_once.specs.Notes.{NoteState}
use Rattle.sql_values.specs.Cells.{cell}
use Rattle.operator_core.specs.Rows.{Row}
use Rattle.dyn_filter.specs.declared.domain.Domain.{Domain}
use Rattle.dyn_filter.specs.declared.domain.Domain.TheVariants.{Nothing}
use Rattle.dyn_filter.specs.Cells.{NotesState, new_notes, note_at}
use Rattle.dyn_filter.specs.Domains.{IsDomainOf}

-- the column whose values it keeps, its part of the filter's cell, the number of the cell's bell, what it learned of the
-- cell, the domain of the values that it was given, and whether that was published
pub record BuildFilterState : Type 0 where
  pub column : ℕ
  pub part : ℕ
  pub bell : ℕ
  pub note : NotesState
  pub domain : Domain
  pub is_published : Bool

-- what it learned of its own part
abbrev pub part_note : BuildFilterState → NoteState Domain
part_note f = note_at f.note.parts f.part

-- how often its part held another domain, up to the most that a count holds
abbrev pub part_refused : BuildFilterState → ℕ
part_refused f = min (part_note f).refused most_count

-- it as it was made
abbrev pub build_filter_made : BuildFilterState → BuildFilterState
build_filter_made f = record {
  column = f.column;
  part = f.part;
  bell = f.bell;
  note = new_notes (map (λ n. n.cell) f.note.parts);
  domain = Nothing;
  is_published = false;
}

-- what it keeps where it is given values
abbrev pub but_domain : BuildFilterState → BuildFilterState
but_domain f = record f { domain = Nothing }

-- it has the domain of the values in its column of these rows
abbrev pub HasDomainOf : List Row → BuildFilterState → Type 0
HasDomainOf rows f = IsDomainOf (map (λ row. cell row f.column) rows) f.domain

-- it knows no domain of its part before it published its own, and then that one, unless it found another there
pub record KnowsOwnDomain (f : BuildFilterState) : Type 0 where
  pub unknown : f.is_published ≡ false → (part_note f).refused ≡ 0 → (part_note f).known ≡ None
  pub known : f.is_published ≡ true → (part_note f).known ≡ Some f.domain

abbrev pub IsPublishedPart : BuildFilterState → Type 0
IsPublishedPart f = f.is_published ≡ true

-- a filter of a target that was given these rows: its domain is theirs, and was published only where the target was told to
-- finish
pub record IsFilterOf (rows : List Row) (is_told : Bool) (f : BuildFilterState) : Type 0 where
  pub of : HasDomainOf rows f
  pub told : f.is_published ≡ true → is_told ≡ true
  pub knows : KnowsOwnDomain f

-- the domain was published in the part, which held none
pub record IsPartPublished (old new : BuildFilterState) : Type 0 where
  pub first : old.is_published ≡ false
  pub own : part_note new ≡ record (part_note old) { known = Some old.domain }
  pub new_is : new ≡ record old { note = record old.note { parts = slice_set old.note.parts old.part (part_note new) }; is_published = true }

-- the part held another domain, after this count of its cell's bell was read: its own is still to be published
pub record IsPartHeld (old new : BuildFilterState) (seen : ℕ) : Type 0 where
  pub first : old.is_published ≡ false
  pub other : Domain
  pub learned : MayLearn (part_note old) other
  pub own : part_note new ≡ record (part_note old) { known = Some other; refused = next_count (part_note old).refused; looked_at = seen }
  pub new_is : new ≡ record old { note = record old.note { parts = slice_set old.note.parts old.part (part_note new) } }

-- it waits at its cell's bell, with this count, since its part holds another domain
pub record IsStuckPart (old new : BuildFilterState) (on : BlockedOn) : Type 0 where
  pub refused : Rose (part_refused old) (part_refused new)
  pub bell : on.bell ≡ new.bell
  pub seen : on.seen ≡ (part_note new).looked_at
  pub unrung : on.rung ≡ false
  pub left : new.is_published ≡ false

-- Of all filters of a target: the first that is not published is the one that waits.
abbrev pub first_unpublished : List BuildFilterState → Option BuildFilterState
first_unpublished filters = find (λ f. not f.is_published) filters

-- how often parts were found that held another domain
abbrev pub parts_refused : List BuildFilterState → ℕ
parts_refused filters = sum_by (λ f. part_refused f) filters

-- how often this bell was to be rung for a filter: its cell's once, where its domain was published
abbrev pub part_dues : BuildFilterState → ℕ → ℕ
part_dues f bell = cond f.is_published (rings_at bell f.bell) 0

abbrev pub parts_dues : List BuildFilterState → ℕ → ℕ
parts_dues filters bell = sum_by (λ f. part_dues f bell) filters

-- one of them waits, and those before it are published
pub record HasStuckPart (old new : List BuildFilterState) (on : BlockedOn) : Type 0 where
  pub stuck : BuildFilterState
  pub first : first_unpublished new ≡ Some stuck
  pub bell : on.bell ≡ stuck.bell
  pub seen : on.seen ≡ (part_note stuck).looked_at
  pub unrung : on.rung ≡ false
  pub refused : Rose (parts_refused old) (parts_refused new)
