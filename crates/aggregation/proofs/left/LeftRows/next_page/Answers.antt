use Rattle.std.proofs.Common.{◌≡◌, ◌+◌, ◌-◌, ◌<◌, ◌≤◌, length, ap, sym, refl, arith, ◌∙◌, length-drop}
use Rattle.aggregation.specs.Giving.{RowsLeft}
use Rattle.aggregation.proofs.LeftLemmas.{next-page}
use Rattle.aggregation.proofs.left.LeftRows.next_page.Goals as goal

pub returns-clause-page : goal.returns-clause-page
returns-clause-page c =
    let s = c.self.inside in
    let high = s.given + c.min.result in
    let left : length c.args.self.now.rows ≡ length s.rows.rows - s.given = ap (λ (x : RowsLeft). length x.rows) (sym c.self.view_is) ∙ length-drop s.given s.rows.rows in
    let more : s.given < high = omega (arith, c.min.ensures, left, c.len.ensures, c.requires.some, c.self.invariant.size) in
    let inside : high ≤ length s.rows.rows = omega (arith, c.min.ensures, c.len.ensures, c.self.invariant.within) in
    let most : high ≤ s.given + s.page = omega (arith, c.min.ensures) in
    next-page s.rows c.in_ok-rows.rows s.given high s.page c.args.self.now _ c.of_columns.result (sym c.self.view_is) refl c.in_ok-rows.ensures c.of_columns.ensures c.rows_fit.ensures more inside most
