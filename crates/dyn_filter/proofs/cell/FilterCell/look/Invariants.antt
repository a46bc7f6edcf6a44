use Rattle.std.proofs.Common.{◌≡◌, length, map}
use Rattle.std.specs.Borrow.{Bor}
use Rattle.dyn_filter.specs.declared.domain.Domain.{Domain}
use Rattle.dyn_filter.specs.Cells.{AreFound, IsNoteOf}
use Rattle.dyn_filter.proofs.cell.FilterCell.look.Given as goal

-- the parts before this one were found
abbrev pub invariant-loop-part : goal.invariant-loop-part
invariant-loop-part l = record {
  found : AreFound l.fn.note.parts l.note.parts (map (λ (r : Bor Domain). r.now) l.domains.items);
  many : length l.domains.items ≡ l.part;
  cell : IsNoteOf l.self.parts l.note;
  empties : l.note.empties ≡ l.fn.note.empties;
  looked_at : l.note.looked_at ≡ l.fn.note.looked_at;
}
