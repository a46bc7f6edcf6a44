use Rattle.std.proofs.Common.{◌≡◌, get_or, ap, rules}
use Rattle.dyn_filter.specs.Cells.{NotesState}
use Rattle.dyn_filter.proofs.CellLemmas.{cells_kept, look_cell}
use Rattle.dyn_filter.proofs.cell.FilterCell.look_at.Goals as goal

pub returns-then-is_none-clause-cell : goal.returns-then-is_none-clause-cell
returns-then-is_none-clause-cell c =
    let at : c.index_mut.result.now ≡ get_or c.note.inside.parts.items c.args.part c.index_mut.result.now = search rules in
    cells_kept c.args.note.now c.note.inside.parts.items c.args.self.now.parts c.args.part c.index_mut.result.now c.look-shown.new.note c.requires.cell
    (ap (λ (n : NotesState). n.parts) c.note.view_is) c.requires.part at (look_cell _ _ _ c.look-shown.result c.look-shown.ensures.some c.look-shown.ensures.none)

pub returns-else-is_none-clause-cell : goal.returns-else-is_none-clause-cell
returns-else-is_none-clause-cell c =
    let at : c.index_mut.result.now ≡ get_or c.note.inside.parts.items c.args.part c.index_mut.result.now = search rules in
    cells_kept c.args.note.now c.note.inside.parts.items c.args.self.now.parts c.args.part c.index_mut.result.now c.look-shown.new.note c.requires.cell
    (ap (λ (n : NotesState). n.parts) c.note.view_is) c.requires.part at (look_cell _ _ _ c.look-shown.result c.look-shown.ensures.some c.look-shown.ensures.none)
