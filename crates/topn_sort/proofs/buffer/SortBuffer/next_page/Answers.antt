use Rattle.std.proofs.Common.{◌≡◌, ◌+◌, ◌-◌, ◌<◌, ◌≤◌, length, drop, ap, arith, sym, ◌∙◌, refl, length-drop}
use Rattle.topn_sort.specs.Sorting.{BufferState}
use Rattle.topn_sort.proofs.BufferLemmas.{next-page}
use Rattle.topn_sort.proofs.buffer.SortBuffer.next_page.Goals as goal

pub returns-clause-page : goal.returns-clause-page
returns-clause-page c =
    let b = c.self.inside in
    let high = b.given + c.min.result in
    let first : c.args.self.now.rows ≡ drop b.given b.rows.rows = sym (ap (λ (v : BufferState). v.rows) c.self.view_is) in
    let left : length c.args.self.now.rows ≡ length b.rows.rows - b.given = ap length first ∙ length-drop b.given b.rows.rows in
    let page : b.page ≡ c.args.self.now.page = ap (λ (v : BufferState). v.page) c.self.view_is in
    let more : b.given < high = omega (arith, c.min.ensures, left, c.len.ensures, c.requires.some, c.self.invariant.size) in
    let inside : high ≤ length b.rows.rows = omega (arith, c.min.ensures, c.len.ensures, c.self.invariant.within) in
    let most : high ≤ b.given + c.args.self.now.page = omega (arith, c.min.ensures, page) in
    next-page b.rows c.in_ok-rows.rows b.given high c.args.self.now _ c.of_columns.result
    first refl (sym (ap (λ (v : BufferState). v.types) c.self.view_is)) c.in_ok-rows.ensures c.of_columns.ensures c.self.invariant.fit more inside most
