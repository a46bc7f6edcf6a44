use Rattle.std.proofs.Common.{◌≡◌, get_or, ap, rules}
use Rattle.dyn_filter.specs.Cells.{NotesState}
use Rattle.dyn_filter.proofs.CellLemmas.{cells_kept, set_cell}
use Rattle.dyn_filter.proofs.cell.FilterCell.publish.Goals as goal

pub returns-clause-cell : goal.returns-clause-cell
returns-clause-cell c =
    let at : c.index_mut.result.now ≡ get_or c.note.inside.parts.items c.args.part c.index_mut.result.now = search rules in
    cells_kept c.args.note.now c.note.inside.parts.items c.args.self.now.parts c.args.part c.index_mut.result.now c.set.new.note c.requires.cell
    (ap (λ (n : NotesState). n.parts) c.note.view_is) c.requires.part at (set_cell _ _ _ _ _ c.set.ensures)
