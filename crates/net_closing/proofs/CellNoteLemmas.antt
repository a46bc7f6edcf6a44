-- The notes of drivers that know each cell by its bell.
use Rattle.std.proofs.Common.{◌≡◌, ℕ, List, [], ◌∷◌, ◌++◌, map, refl, ap, append-nil, sym, subst, ◌∙◌}
use Rattle.std.specs.Prelude.{All, flat_map}
use Rattle.std.proofs.lemmas.List.{map-append}
use Rattle.std.proofs.lemmas.List.Elements.{All-append, All-cons, All-head, All-nil, All-tail}
use Rattle.bag_laws.proofs.TopLemmas.{All-back, All-front}
use Rattle.driver_loop.specs.Drivers.{DriverState}
use Rattle.driver_loop.specs.Ends.{is_build}
use Rattle.driver_loop.specs.Turns.{note_of_stage, note_of_target, notes_of}
use Rattle.driver_loop.specs.declared.pieces.CellNote.{CellNote}
use Rattle.driver_loop.specs.declared.stage.Stage.{Stage}
use Rattle.driver_loop.specs.declared.stage.Stage.TheVariants.{Probe}
use Rattle.driver_loop.specs.declared.target.Target.{Target}
use Rattle.driver_loop.specs.declared.target.Target.TheVariants.{Build, Deal, Put, Result}
use Rattle.driver_net_laws.specs.Cells.{AreNamed, AreOfCells, Names, cell_of, cells_of, target_cell}
use Rattle.driver_net_laws.specs.Settled.{builds_of, looks_of}
use Rattle.net_closing.specs.Closing.{AreNone, HaveKept, IsOneIf}
use Rattle.net_closing.specs.declared.notes.Notes.{Notes}
use Rattle.net_closing.proofs.NoteLemmas.{all_pairs}

-- the cells of notes are those of their stages and targets
abbrev pub cell_noted : CellNote → ℕ × ℕ
cell_noted n = (n.bell, n.note.cell)

stage_noted : (s : Stage) → map cell_noted (note_of_stage s) ≡ cell_of s
stage_noted (Probe op types) = refl
stage_noted s = refl

stages_noted : (ss : List Stage) → map cell_noted (flat_map note_of_stage ss) ≡ flat_map cell_of ss
stages_noted [] = refl
stages_noted (s ∷ ss) = map-append cell_noted (note_of_stage s) (flat_map note_of_stage ss) ∙ (λ i. stage_noted s i ++ stages_noted ss i)

target_noted : (t : Target) → map cell_noted (note_of_target t) ≡ target_cell t
target_noted (Result result) = refl
target_noted (Build b) = refl
target_noted (Put put) = refl
target_noted (Deal deal) = refl

named_notes : (names : Names) (notes : List CellNote) → All (λ (c : ℕ × ℕ). c.1 ≡ names c.0) (map cell_noted notes) → All (λ (n : CellNote). n.note.cell ≡ names n.bell) notes
named_notes names [] all = All-nil (λ (n : CellNote). n.note.cell ≡ names n.bell)
named_notes names (n ∷ notes) all =
    All-cons (λ (m : CellNote). m.note.cell ≡ names m.bell) n notes (All-head (λ (c : ℕ × ℕ). c.1 ≡ names c.0) (cell_noted n) (map cell_noted notes) all)
    (named_notes names notes (All-tail (λ (c : ℕ × ℕ). c.1 ≡ names c.0) (cell_noted n) (map cell_noted notes) all))

module _ (names : Names) where
  abbrev Holds : ℕ × ℕ → Type 0
  Holds c = c.1 ≡ names c.0

  append_named : (xs ys : List CellNote) → All (λ (n : CellNote). n.note.cell ≡ names n.bell) xs → All (λ (n : CellNote). n.note.cell ≡ names n.bell) ys
      → All (λ (n : CellNote). n.note.cell ≡ names n.bell) (xs ++ ys)
  append_named xs ys first second = All-append (λ (n : CellNote). n.note.cell ≡ names n.bell) xs ys first second

  looks_named : (ds : List DriverState) → All Holds (flat_map cells_of ds) → All (λ (n : CellNote). n.note.cell ≡ names n.bell) (looks_of ds)
  looks_named [] all = All-nil (λ (n : CellNote). n.note.cell ≡ names n.bell)
  looks_named (d ∷ ds) all =
      append_named (flat_map note_of_stage d.stages) (looks_of ds)
      (named_notes names (flat_map note_of_stage d.stages) (subst (All Holds) (sym (stages_noted d.stages))
      (All-front Holds (flat_map cell_of d.stages) (target_cell d.target) (All-front Holds (cells_of d) (flat_map cells_of ds) all))))
      (looks_named ds (All-back Holds (cells_of d) (flat_map cells_of ds) all))

  builds_named : (ds : List DriverState) → All Holds (flat_map cells_of ds) → All (λ (n : CellNote). n.note.cell ≡ names n.bell) (builds_of ds)
  builds_named [] all = All-nil (λ (n : CellNote). n.note.cell ≡ names n.bell)
  builds_named (d ∷ ds) all =
      append_named (note_of_target d.target) (builds_of ds)
      (named_notes names (note_of_target d.target) (subst (All Holds) (sym (target_noted d.target))
      (All-back Holds (flat_map cell_of d.stages) (target_cell d.target) (All-front Holds (cells_of d) (flat_map cells_of ds) all))))
      (builds_named ds (All-back Holds (cells_of d) (flat_map cells_of ds) all))

-- notes of drivers with the same bell are of one cell
of_cells : (ds : List DriverState) → AreNamed ds → AreOfCells (looks_of ds) (builds_of ds)
of_cells ds (names, all) = all_pairs (λ (n : CellNote). n.note.cell ≡ names n.bell) (λ (look build : CellNote). build.bell ≡ look.bell → build.note.cell ≡ look.note.cell) (looks_of ds) (builds_of ds)
    (λ look build own other same. other ∙ ap names same ∙ sym own) (looks_named names ds all) (builds_named names ds all)

-- and so are all notes that were kept
pub kept_of_cells : (ds : List DriverState) (old new : Notes) → AreNamed ds → AreNone old → HaveKept old new ds → AreOfCells new.looks.items new.builds.items
kept_of_cells ds old new named none kept =
    let looks : new.looks.items ≡ looks_of ds = kept.looks ∙ ap (λ (ns : List CellNote). ns ++ looks_of ds) none.looks in
    let builds : new.builds.items ≡ builds_of ds = kept.builds ∙ ap (λ (ns : List CellNote). ns ++ builds_of ds) none.builds in
    subst (λ (ls : List CellNote). AreOfCells ls new.builds.items) (sym looks) (subst (AreOfCells (looks_of ds)) (sym builds) (of_cells ds named))

-- of a target that builds there is one note, and of another one none
pub target_is_one : (t : Target) → IsOneIf (is_build t) (note_of_target t ++ [])
target_is_one (Result result) = refl
target_is_one (Build b) = (record { bell = b.bell; note = b.note }, refl)
target_is_one (Put put) = refl
target_is_one (Deal deal) = refl

-- the notes of a driver are those of its stages, and behind them that of its target
pub notes_apart : (d : DriverState) → notes_of d ≡ looks_of (d ∷ []) ++ builds_of (d ∷ [])
notes_apart d = λ i. sym (append-nil (flat_map note_of_stage d.stages)) i ++ sym (append-nil (note_of_target d.target)) i
