use Rattle.std.proofs.Common.{◌≡◌, ◌∙◌, ◌≤◌, ◌++◌, List, ap, arith, flat_map, length, map, subst, sym}
use Rattle.driver_loop.specs.Drivers.{DriverState, IsWhole}
use Rattle.driver_loop.specs.Turns.{filter_note_of_stage, filter_notes_of, filters_of, note_of_build_filter}
use Rattle.driver_loop.specs.declared.pieces.FilterCellNote.{FilterCellNote}
use Rattle.driver_loop.proofs.NoteLemmas.{few_notes, one_filter_note}
use Rattle.driver_loop.proofs.driver.Driver.take_apart.Goals as goal

pub returns-clause-filters : goal.returns-clause-filters
returns-clause-filters g c = λ whole.
    let d = c.self.inside in
    let notes : List FilterCellNote = flat_map filter_note_of_stage d.stages.items in
    let r = c.self.invariant.room (subst (λ (s : DriverState). IsWhole s.fault) (sym c.self.view_is) whole) in
    let none = c.self.invariant.none.filters in
    let first : c.put_notes.new.lists.filters.items ≡ notes =
    c.put_notes.ensures.filters (omega (arith, r.filters, ap (λ (l : List FilterCellNote). length l) none)) ∙ ap (λ (l : List FilterCellNote). l ++ notes) none in
    let few : length notes ≤ length d.stages.items = few_notes filter_note_of_stage one_filter_note d.stages.items in
    c.into_parts-rows.ensures.filters (omega (arith, ap (λ (l : List FilterCellNote). length l) first, few, c.put_notes.ensures.room.filters, r.filters))
    ∙ ap (λ (l : List FilterCellNote). l ++ map note_of_build_filter (filters_of d.target)) first ∙ ap filter_notes_of c.self.view_is
