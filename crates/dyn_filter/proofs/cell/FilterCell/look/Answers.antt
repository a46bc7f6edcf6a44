use Rattle.std.proofs.Common.{◌≡◌, ◌<◌, ◌≤◌, ◌+◌, ◌∙◌, ap, length, rules, arith}
use Rattle.dyn_filter.specs.Cells.{NotesState}
use Rattle.dyn_filter.proofs.CellLemmas.{as_long, found_all, found_next}
use Rattle.dyn_filter.proofs.cell.FilterCell.look.Goals as goal

pub loop-part-preserved : goal.loop-part-preserved
loop-part-preserved c =
    let some = c.in-Some.ensures.some in
    let within : c.loop-part.part < length c.args.self.now.parts = search rules in
    let many : length c.push.new.self.items ≡ c.loop-part.part + 1 = search rules in
    record {
      found = found_next c.args.note.now.parts c.loop-part.note.parts c.look_at.new.note.parts c.loop-part.domains.items c.push.new.self.items c.in-Some.domain c.loop-part.part
          c.loop-part.invariant.found c.loop-part.invariant.many (omega (arith, within, as_long c.args.note.now c.args.self.now.parts c.requires.cell)) some.0
          (ap (λ (n : NotesState). n.parts) some.1) c.in_ok-push-in-Some.ensures.items;
      many = many;
      cell = c.look_at.ensures.cell;
      empties = ap (λ (n : NotesState). n.empties) some.1 ∙ c.loop-part.invariant.empties;
      looked_at = ap (λ (n : NotesState). n.looked_at) some.1 ∙ c.loop-part.invariant.looked_at;
    }

pub returns-clause-found : goal.returns-clause-found
returns-clause-found c =
    let all : length c.args.self.now.parts ≤ c.loop-part.part = search rules in
    found_all c.args.note.now c.loop-part.note c.loop-part.domains.items c.deref.result.now c.in_ok-union_of.field-0 c.args.self.now.parts c.loop-part.part c.requires.cell
    c.loop-part.invariant.found c.loop-part.invariant.many all c.deref.ensures.value c.in_ok-union_of.ensures c.loop-part.invariant.empties c.loop-part.invariant.looked_at
