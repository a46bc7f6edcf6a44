use Rattle.std.proofs.Common.{◌≡◌, true, ap, arith, length, length-append, rules}
use Rattle.operator_core.specs.Samples.{has_row}
use Rattle.topn_sort.specs.Sorting.{BufferState}
use Rattle.topn_sort.proofs.BufferLemmas.{began-long, began-some}
use Rattle.topn_sort.proofs.buffer.SortBuffer.give.Goals as goal

pub next_page-requires-clause-some : goal.next_page-requires-clause-some
next_page-requires-clause-some c =
    let b = c.args.self.now in
    let some : has_row b.rows ≡ true = search rules in
    began-some b.begun b.keys b.rows c.begin.new.self.rows c.in_ok-begin.ensures.order some

pub returns-in_err-next_page-clause-fewer : goal.returns-in_err-next_page-clause-fewer
returns-in_err-next_page-clause-fewer c =
    let b = c.args.self.now in
    omega (arith, began-long b.begun b.keys b.rows c.begin.new.self.rows c.in_ok-begin.ensures.order, ap (λ (v : BufferState). length v.rows) c.in_err-next_page.ensures.err)

pub returns-clause-fewer : goal.returns-clause-fewer
returns-clause-fewer c =
    let b = c.args.self.now in
    omega (
      arith,
      began-long b.begun b.keys b.rows c.begin.new.self.rows c.in_ok-begin.ensures.order,
      ap length c.in_ok-next_page.ensures.page.rows,
      length-append c.in_ok-next_page.field-0.rows c.next_page.new.self.rows,
    )
