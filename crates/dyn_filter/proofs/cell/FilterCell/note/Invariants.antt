use Rattle.std.proofs.Common.{◌≡◌, map, take}
use Rattle.set_once.specs.Notes.{new_note}
use Rattle.dyn_filter.proofs.cell.FilterCell.note.Given as goal

abbrev pub invariant-loop-part : goal.invariant-loop-part
invariant-loop-part l = l.parts.items ≡ map new_note (take l.part-index l.self.parts)
