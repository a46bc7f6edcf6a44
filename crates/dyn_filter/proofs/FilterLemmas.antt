-- What `FilterOp` may give after each of its calls.
use Rattle.std.proofs.Common.{◌≡◌, ℕ, ◌<◌, List, [], ◌∷◌, ◌++◌, Bool, true, false, not, ◌&&◌, ◌||◌, Option, Some, None, Result, Ok, length, map, min, ◌+◌, arith, refl, ap, sym, ◌∙◌, subst, append_assoc}
use Rattle.std.specs.Prelude.{◌↔◌, MatchOption, filter, is_some}
use Rattle.std.proofs.lemmas.Bool.{true≢false}
use Rattle.std.proofs.lemmas.List.Elements.{filter-append}
use Rattle.col_pages.specs.Pages.{TypedPage}
use Rattle.count_laws.specs.Counts.{most_count}
use Rattle.sql_values.specs.declared.fail.Fail.{Fail}
use Rattle.set_once.specs.Notes.{NoteState, new_note}
use Rattle.operator_core.specs.declared.fault.OpFault.{OpFault}
use Rattle.operator_core.specs.Answers.{gave}
use Rattle.operator_core.specs.Rows.{Row}
use Rattle.operator_core.specs.Samples.{has_row}
use Rattle.operator_core.specs.SampleLaws.{has_row-none}
use Rattle.dyn_filter.specs.declared.domain.Domain.{Domain}
use Rattle.dyn_filter.specs.Rows.{row_passes}
use Rattle.dyn_filter.specs.Cells.{NotesState, new_notes}
use Rattle.dyn_filter.proofs.CellLemmas.{fresh_cells}
use Rattle.dyn_filter.specs.Filters.{FilterGives, FilterState, FilterTookPage, GavePage, IsFiltering, WentBy, unlooked}
use Rattle.dyn_filter.specs.FilterLaws.{kept-all, kept-append, kept-filter}

pub taken_gives : (waits : Bool) (column : ℕ) (known : Option Domain) (held new rows X B : List Row) → FilterTookPage column known held rows new → (known ≡ None → waits ≡ false)
    → FilterGives waits column known new X B → FilterGives waits column known held (rows ++ X) B
taken_gives waits column (Some domain) held new rows X B is free g =
    let pass : Row → Bool = row_passes g.0 column in
    let own : filter (row_passes domain column) rows ≡ filter pass rows = ap (λ (d : Domain). filter (row_passes d column) rows) (sym g.1) in (
      g.0,
      g.1,
      filter pass rows ++ g.2,
      g.3 ∙ ap (λ (rs : List Row). rs ++ g.2) (is ∙ ap (λ (rs : List Row). held ++ rs) own) ∙ append_assoc held (filter pass rows) g.2,
      kept-append pass (filter pass rows) rows g.2 X (kept-filter pass rows) g.4,
      λ w. ap (λ (rs : List Row). filter pass rows ++ rs) (g.5 w) ∙ sym (filter-append pass rows X),
    )
taken_gives waits column None held new rows X B is free g =
    let pass : Row → Bool = row_passes g.0 column in (
      g.0,
      g.1,
      rows ++ g.2,
      g.3 ∙ ap (λ (rs : List Row). rs ++ g.2) is ∙ append_assoc held rows g.2,
      kept-append pass rows rows g.2 X (kept-all pass rows) g.4,
      λ w. cc (free refl, w),
    )

pub taken_went : (waits : Bool) (column : ℕ) (known : Option Domain) (held new rows T G : List Row) → FilterTookPage column known held rows new → (known ≡ None → waits ≡ false)
    → is_some known ≡ false → WentBy waits held T G → WentBy waits new (T ++ rows) G
taken_went waits column (Some domain) held new rows T G is free unknown went = cc
taken_went waits column None held new rows T G is free unknown went = (
  ap (λ (rs : List Row). G ++ rs) is ∙ sym (append_assoc G held rows) ∙ ap (λ (rs : List Row). rs ++ rows) went.0,
  λ w. cc (free refl, w),
)

-- one that takes input without knowing the domain does not wait
pub open_needs : (known : Option Domain) (waits rest : Bool) → ((is_some known || not waits) && rest) ≡ true → known ≡ None → waits ≡ false
open_needs (Some domain) waits rest e none = cc
open_needs None true rest e none = cc
open_needs None false rest e none = refl

-- a domain that came to be known is some domain
pub looked_gives : (waits : Bool) (column : ℕ) (known new : Option Domain) (held X B : List Row) → (is_some known ≡ true → new ≡ known)
    → FilterGives waits column new held X B → FilterGives waits column known held X B
looked_gives waits column (Some domain) new held X B same g = subst (λ (k : Option Domain). FilterGives waits column k held X B) (same refl) g
looked_gives waits column None new held X B same g = (g.0, tt, g.2, g.3, g.4, g.5)

-- from then on it is as if it had been made with it
pub learned_gives : (waits : Bool) (column : ℕ) (known : Option Domain) (held T G X B : List Row) → WentBy waits held T G → FilterGives waits column known held X B
    → FilterGives waits column known [] (T ++ X) (G ++ B)
learned_gives waits column known held T G X B went g =
    let pass : Row → Bool = row_passes g.0 column in (
      g.0,
      g.1,
      T ++ g.2,
      ap (λ (rs : List Row). G ++ rs) g.3 ∙ sym (append_assoc G held g.2) ∙ ap (λ (rs : List Row). rs ++ g.2) went.0,
      kept-append pass T T g.2 X (kept-all pass T) g.4,
      λ w. waited (went.1 w) (g.5 w),
    )
  where
    waited : T ≡ [] → g.2 ≡ filter (row_passes g.0 column) X → T ++ g.2 ≡ filter (row_passes g.0 column) (T ++ X)
    waited none e = rw (none, e) refl

-- what a page leaves of what is held
has_more : (held rows rest : List Row) → held ≡ rows ++ rest → 0 < length rows → has_row held ≡ true
has_more held [] rest is some = absurd (omega arith)
has_more held (row ∷ rows) rest is some = ap has_row is

abbrev pub IsGiven : FilterState → FilterState → Option TypedPage → Type 0
IsGiven old new given = MatchOption given ((old.held ≡ []) × (new ≡ old)) (GavePage old new)

pub gave_none : (r : Option TypedPage) (old new : FilterState) → IsGiven old new r
    → (◌≡◌ {A = Result (Option TypedPage) OpFault} (Ok r) (Ok None)) ↔ ((has_row old.held ≡ false) × (old.is_told ≡ true → (node : ℕ) (kind : Fail) → ⊥ → ⊥))
gave_none None old new given = ((λ e. ((has_row-none old.held).1 given.0, λ told node kind f. f)), (λ h. refl))
gave_none (Some page) old new given = (
  (λ e. cc e),
  (λ h. absurd (true≢false (sym (has_more old.held page.rows new.held given.rows given.some) ∙ h.0))),
)

still_over : (told : Bool) (held : List Row) → has_row held ≡ true → (told && not (has_row held)) ≡ true → ⊥
still_over false held some e = cc e
still_over true held some e = cc (e, some)

pub gave_over : (r : Option TypedPage) (old new : FilterState) → IsGiven old new r → (old.is_told && not (has_row old.held)) ≡ true
    → (new.is_told && not (has_row new.held)) ≡ true
gave_over None old new given e = subst (λ (s : FilterState). (s.is_told && not (has_row s.held)) ≡ true) (sym given.1) e
gave_over (Some page) old new given e = absurd (still_over old.is_told old.held (has_more old.held page.rows new.held given.rows given.some) e)

-- what is counted with more rows
held_at_most : (n passed more now : ℕ) → passed ≡ min n most_count → now ≡ min (passed + more) most_count → now ≡ min (n + more) most_count
held_at_most n passed more now was is = omega (arith, was, is)

pub gave_counted : (r : Option TypedPage) (old new : FilterState) → IsGiven old new r → (n : ℕ) → old.passed ≡ min n most_count
    → new.passed ≡ min (n + length (gave (Ok r))) most_count
gave_counted None old new given n was = ap (λ (s : FilterState). s.passed) given.1 ∙ was ∙ ap (λ k. min k most_count) (omega arith)
gave_counted (Some page) old new given n was = held_at_most n old.passed (length page.rows) new.passed was given.counted

-- one that was just made
pub new_filtering : (parts : List ℕ) (note : NotesState) → note ≡ new_notes parts → IsFiltering parts note None
new_filtering parts note is = record { of_cell = ap (λ (n : NotesState). map (λ m. m.cell) n.parts) is ∙ fresh_cells parts; knows = tt }

pub learned_all : (old new : FilterState) (T G X B : List Row) → new ≡ record old { note = new.note; known = new.known } → WentBy old.waits old.held T G
    → FilterGives new.waits new.column new.known new.held X B → FilterGives new.waits new.column new.known [] (T ++ X) (G ++ B)
learned_all old new T G X B same went g =
    learned_gives new.waits new.column new.known new.held T G X B (subst (λ (s : FilterState). WentBy s.waits s.held T G) (sym same) went) g

some_known : (known : Option Domain) → is_some known ≡ true → (domain : Domain) × (known ≡ Some domain)
some_known (Some domain) e = (domain, refl)
some_known None e = cc

pub learned_made : (old new : FilterState) → new ≡ record old { note = new.note; known = new.known } → is_some new.known ≡ true
    → (domain : Domain) × (record new { note = unlooked new.parts; held = []; passed = 0; is_told = false }
    ≡ record old { note = unlooked old.parts; known = Some domain; held = []; passed = 0; is_told = false })
learned_made old new same e =
    let some = some_known new.known e in (
      some.0,
      ap (λ (s : FilterState). record s { note = unlooked s.parts; held = []; passed = 0; is_told = false }) same
          ∙ ap (λ (k : Option Domain). record old { note = unlooked old.parts; known = k; held = []; passed = 0; is_told = false }) some.1,
    )

-- over whole states
pub took_gives : (old new : FilterState) (rows X B : List Row) → new ≡ record old { held = new.held } → FilterTookPage old.column old.known old.held rows new.held
    → ((is_some old.known || not old.waits) && not (old.is_told || has_row old.held)) ≡ true
    → FilterGives new.waits new.column new.known new.held X B → FilterGives old.waits old.column old.known old.held (rows ++ X) B
took_gives old new rows X B same is needs g =
    taken_gives old.waits old.column old.known old.held new.held rows X B is (open_needs old.known old.waits (not (old.is_told || has_row old.held)) needs)
    (subst (λ (s : FilterState). FilterGives s.waits s.column s.known s.held X B) same g)
