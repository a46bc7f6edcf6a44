use Rattle.std.proofs.Common.{◌≡◌, ◌<◌, ℕ, List, get_or, length, map, ap, ◌∙◌, sym, rules}
use Rattle.set_once.specs.Notes.{NoteState}
use Rattle.dyn_filter.specs.declared.domain.Domain.{Domain}
use Rattle.dyn_filter.specs.Cells.{NotesState}
use Rattle.dyn_filter.proofs.CellLemmas.{same_name}
use Rattle.dyn_filter.proofs.note.FilterNote.agree.Goals as goal

pub agree-requires : goal.agree-requires
agree-requires c =
    let names : NotesState → List ℕ = λ n. map (λ (m : NoteState Domain). m.cell) n.parts in
    let within : c.args.part < length c.self.inside.parts.items = search rules in
    let own : c.index_mut.result.now ≡ get_or c.self.inside.parts.items c.args.part c.index_mut.result.now = search rules in
    let other : c.index_mut-2.result.now ≡ get_or c.other.inside.parts.items c.args.part c.index_mut-2.result.now = search rules in
    same_name c.self.inside.parts.items c.other.inside.parts.items c.args.part c.index_mut.result.now c.index_mut-2.result.now
    (ap names c.other.view_is ∙ c.requires.cell ∙ sym (ap names c.self.view_is)) within own other
