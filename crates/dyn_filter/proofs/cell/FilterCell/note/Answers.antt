use Rattle.std.proofs.Common.{◌≤◌, ◌∙◌, ap, length, map, rules}
use Rattle.std.proofs.lemmas.List.{take_all}
use Rattle.set_once.specs.Notes.{NoteState, new_note}
use Rattle.dyn_filter.specs.declared.domain.Domain.{Domain}
use Rattle.dyn_filter.proofs.CellLemmas.{fresh_cells}
use Rattle.dyn_filter.proofs.cell.FilterCell.note.Goals as goal

pub returns-clause-cell : goal.returns-clause-cell
returns-clause-cell c =
    let all : length c.args.self.now.parts ≤ c.loop-part.part-index = search rules in
    ap (map (λ (n : NoteState Domain). n.cell)) (c.loop-part.invariant ∙ ap (map new_note) (take_all c.loop-part.part-index c.args.self.now.parts all)) ∙ fresh_cells c.args.self.now.parts
