-- Cells of several parts, each of which comes to hold a domain.
use Rattle.std.specs.Prelude.{◌≡◌, ℕ, ◌<◌, ◌≤◌, List, [], ◌∷◌, ◌++◌, length, map, slice_index_or, slice_set, None, Some, Result, Ok, Err}
use Rattle.blocked.specs.declared.due.Due.{Due}
use Rattle.count_laws.specs.Counts.{next_count}
use Rattle.set_once.specs.Notes.{NoteState, new_note}
use Rattle.set_once.specs.Answers.{MayLearn}
use Rattle.sql_values.specs.declared.value.Value.{Value}
use Rattle.dyn_filter.specs.declared.domain.Domain.{Domain}
use Rattle.dyn_filter.specs.declared.domain.Domain.TheVariants.{Nothing}
use Rattle.dyn_filter.specs.declared.fault.FilterPublishFault.{FilterPublishFault}
use Rattle.dyn_filter.specs.declared.fault.FilterPublishFault.TheVariants.{Held, Memory}
use Rattle.dyn_filter.specs.Domains.{IsDomainOf}

-- the names of the parts, and the number of the bell
pub record CellState : Type 0 where
  pub parts : List ℕ
  pub bell : ℕ

-- what is known of each part; how often a look found a part that has no domain; and the count that the last such look was
-- handed
pub record NotesState : Type 0 where
  pub parts : List (NoteState Domain)
  pub empties : ℕ
  pub looked_at : ℕ

-- the note is one of the cell that has these parts
abbrev pub IsNoteOf : List ℕ → NotesState → Type 0
IsNoteOf parts note = map (λ n. n.cell) note.parts ≡ parts

-- a note of that cell that knows nothing
abbrev pub new_notes : List ℕ → NotesState
new_notes parts = record { parts = map new_note parts; empties = 0; looked_at = 0 }

-- the cell took the domain, and its bell is to ring; the part held another, which was counted, and the note knows that one
-- and keeps the count of the bell that was read; or memory was wanting, and the note is as it was
abbrev pub IsPublished : ℕ → NoteState Domain → NoteState Domain → Domain → ℕ → Result Due FilterPublishFault → Type 0
IsPublished bell old new domain seen (Ok due) =
    (due.number ≡ bell) × (old.known ≡ None) × (new ≡ record old { known = Some domain })
IsPublished bell old new domain seen (Err (Held back)) = (back ≡ domain) × ((d : Domain) × MayLearn old d
    × (new ≡ record old { known = Some d; refused = next_count old.refused; looked_at = seen }))
IsPublished bell old new domain seen (Err (Memory back)) = (back ≡ domain) × (new ≡ old)

-- the domains are those of the lists of values, each of the one at its place
abbrev pub AreDomainsOf : List (List Value) → List Domain → Type 0
AreDomainsOf [] [] = Unit {0}
AreDomainsOf (values ∷ lists) (domain ∷ domains) = IsDomainOf values domain × AreDomainsOf lists domains
AreDomainsOf lists domains = ⊥

abbrev pub all_of : List (List Value) → List Value
all_of [] = []
all_of (values ∷ lists) = values ++ all_of lists

-- the domain of all values that these are the domains of
abbrev pub IsUnion : List Domain → Domain → Type 0
IsUnion domains domain = (lists : List (List Value)) → AreDomainsOf lists domains → IsDomainOf (all_of lists) domain

abbrev pub note_at : List (NoteState Domain) → ℕ → NoteState Domain
note_at notes part = slice_index_or notes part (new_note 0)

abbrev pub domain_at : List Domain → ℕ → Domain
domain_at domains part = slice_index_or domains part Nothing

-- the first parts were looked at, and have these domains; the others were not
pub record AreFound (old new : List (NoteState Domain)) (domains : List Domain) : Type 0 where
  pub size : length new ≡ length old
  pub few : length domains ≤ length old
  pub may : (part : ℕ) → part < length domains → MayLearn (note_at old part) (domain_at domains part)
  pub known : (part : ℕ) → part < length domains → note_at new part ≡ record (note_at old part) { known = Some (domain_at domains part) }
  pub rest : (part : ℕ) → length domains ≤ part → note_at new part ≡ note_at old part

-- each part has its domain, and this one is that of all of them
pub record FoundAll (old new : NotesState) (domain : Domain) : Type 0 where
  pub domains : List Domain
  pub all : length domains ≡ length old.parts
  pub found : AreFound old.parts new.parts domains
  pub union : IsUnion domains domain
  pub empties : new.empties ≡ old.empties
  pub looked_at : new.looked_at ≡ old.looked_at

-- the note knew nothing of a part, and a look at it found nothing, which is counted
pub record FoundNone (old new : NotesState) (seen : ℕ) : Type 0 where
  pub domains : List Domain
  pub before : List (NoteState Domain)
  pub some : length domains < length old.parts
  pub found : AreFound old.parts before domains
  pub unknown : (note_at old.parts (length domains)).known ≡ None
  pub counted : new.parts ≡ slice_set before (length domains) (record (note_at old.parts (length domains)) {
    empties = next_count (note_at old.parts (length domains)).empties;
    looked_at = seen;
  })
  pub empties : new.empties ≡ next_count old.empties
  pub looked_at : new.looked_at ≡ seen

-- the domains that the parts are known to have
pub record AreKnown (notes : List (NoteState Domain)) (domains : List Domain) : Type 0 where
  pub size : length notes ≡ length domains
  pub known : (part : ℕ) → part < length domains → (note_at notes part).known ≡ Some (domain_at domains part)
