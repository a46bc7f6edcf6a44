-- What `FilterOp` keeps, and what it may give.
use Rattle.std.specs.Prelude.{◌≡◌, ◌⊎◌, ℕ, ◌+◌, ◌<◌, ◌≤◌, List, length, min, [], ◌∷◌, ◌++◌, Bool, true, false, Option, Some, None, map, filter, IfSome}
use Rattle.count_laws.specs.Counts.{most_count}
use Rattle.col_pages.specs.Pages.{TypedPage, most_rows}
use Rattle.set_once.specs.Notes.{NoteState, new_note}
use Rattle.operator_core.specs.Rows.{Row}
use Rattle.dyn_filter.specs.declared.domain.Domain.{Domain}
use Rattle.dyn_filter.specs.Rows.{row_passes}
use Rattle.dyn_filter.specs.Cells.{AreKnown, IsNoteOf, IsUnion, NotesState}

-- some of the rows in their order: all that pass, and maybe others
abbrev pub AreKept : (Row → Bool) → List Row → List Row → Type 0
AreKept pass kept [] = kept ≡ []
AreKept pass kept (row ∷ rows) =
    ((pass row ≡ false) × AreKept pass kept rows) ⊎ ((rest : List Row) × (kept ≡ row ∷ rest) × AreKept pass rest rows)

-- the domain that is known, or any where none is
abbrev pub IsKnown : Option Domain → Domain → Type 0
IsKnown (Some known) domain = domain ≡ known
IsKnown None domain = Unit {0}

-- what it may give: what it holds, and then the rows to come in their order, but for some that do not pass; one that waits
-- gives none that does not pass
abbrev pub FilterGives : Bool → ℕ → Option Domain → List Row → List Row → List Row → Type 0
FilterGives waits column known held X B = (domain : Domain) × IsKnown known domain × (kept : List Row) × (B ≡ held ++ kept)
    × AreKept (row_passes domain column) kept X × (waits ≡ true → kept ≡ filter (row_passes domain column) X)

-- while it knew nothing it gave what it took, but for what it holds; one that waits took nothing
abbrev pub WentBy : Bool → List Row → List Row → List Row → Type 0
WentBy waits held T G = (G ++ held ≡ T) × (waits ≡ true → T ≡ [])

-- a page was taken in: the rows of it that pass, or all where the domain is not known
abbrev pub FilterTookPage : ℕ → Option Domain → List Row → List Row → List Row → Type 0
FilterTookPage column (Some domain) held rows new = new ≡ held ++ filter (row_passes domain column) rows
FilterTookPage column None held rows new = new ≡ held ++ rows

-- its column, whether it waits, its cell's parts and bell, its note, the domain that it knows, the rows that it holds, how
-- many rows it gave, and whether it was told to finish
pub record FilterState : Type 0 where
  pub column : ℕ
  pub waits : Bool
  pub parts : List ℕ
  pub bell : ℕ
  pub note : NotesState
  pub known : Option Domain
  pub held : List Row
  pub passed : ℕ
  pub is_told : Bool

-- the note as it was made
abbrev pub unlooked : List ℕ → NotesState
unlooked parts = record { parts = map new_note parts; empties = 0; looked_at = 0 }

-- the domain that is known is that of all parts, whose domains the note knows
abbrev pub KnowsAll : List (NoteState Domain) → Domain → Type 0
KnowsAll notes domain = (domains : List Domain) × AreKnown notes domains × IsUnion domains domain

pub record IsFiltering (parts : List ℕ) (note : NotesState) (known : Option Domain) : Type 0 where
  pub of_cell : IsNoteOf parts note
  pub knows : IfSome known (KnowsAll note.parts)

-- a page of what is held was given, and its rows are counted
pub record GavePage (old new : FilterState) (page : TypedPage) : Type 0 where
  pub rows : old.held ≡ page.rows ++ new.held
  pub some : 0 < length page.rows
  pub few : length page.rows ≤ most_rows
  pub counted : new.passed ≡ min (old.passed + length page.rows) most_count
  pub same : new ≡ record old { held = new.held; passed = new.passed }
