use Rattle.std.proofs.Common.{◌≡◌, ◌≤◌, ◌+◌, List, length, ap, arith, subst, sym, ◌∙◌}
use Rattle.std.specs.List.{range_with_len}
use Rattle.std.proofs.lemmas.List.FromFn.{length-range_with_len}
use Rattle.sql_values.specs.declared.types.SqlType.{SqlType}
use Rattle.col_pages.specs.Fits.{IsOfTypes}
use Rattle.row_ops.specs.ValueRows.{ValuesState, rows_to_give}
use Rattle.row_ops.proofs.ValueLemmas.{page-next, page-of, whole_fit_at}
use Rattle.row_ops.proofs.values.ValuesOp.next_page.Goals as goal

pub of_rows-requires-clause-beside : goal.of_rows-requires-clause-beside
of_rows-requires-clause-beside c =
    let s = c.self.inside in
    let all : c.deref-3.result.now ≡ range_with_len 0 (length s.types.items)
    = c.deref-3.ensures.value ∙ c.in_ok-columns.ensures ∙ ap (λ (ts : List SqlType). range_with_len 0 (length ts)) c.deref.ensures.value in
    omega (arith, ap length c.deref-2.ensures.value, ap length all, length-range_with_len 0 (length s.types.items))

pub of_rows-requires-clause-fits : goal.of_rows-requires-clause-fits
of_rows-requires-clause-fits c =
    let s = c.self.inside in
    let all : c.deref-3.result.now ≡ range_with_len 0 (length s.types.items)
    = c.deref-3.ensures.value ∙ c.in_ok-columns.ensures ∙ ap (λ (ts : List SqlType). range_with_len 0 (length ts)) c.deref.ensures.value in
    whole_fit_at s.types.items c.deref-2.result.now c.deref-3.result.now s.rows c.deref-2.ensures.value all c.self.invariant.givable.fit

pub returns-clause-rows : goal.returns-clause-rows
returns-clause-rows c =
    let s = c.self.inside in
    let all : c.deref-3.result.now ≡ range_with_len 0 (length s.types.items)
    = c.deref-3.ensures.value ∙ c.in_ok-columns.ensures ∙ ap (λ (ts : List SqlType). range_with_len 0 (length ts)) c.deref.ensures.value in
    let order : s.given ≤ s.given + c.min.result = omega arith in
    sym (ap rows_to_give c.self.view_is)
    ∙ page-next s.types.items s.rows c.self.invariant.givable.fit s.given (s.given + c.min.result) order
    c.deref-2.result.now c.deref-3.result.now c.in_ok-page.page c.deref-2.ensures.value all c.in_ok-page.ensures

pub returns-clause-of : goal.returns-clause-of
returns-clause-of c =
    let s = c.self.inside in
    let all : c.deref-3.result.now ≡ range_with_len 0 (length s.types.items)
    = c.deref-3.ensures.value ∙ c.in_ok-columns.ensures ∙ ap (λ (ts : List SqlType). range_with_len 0 (length ts)) c.deref.ensures.value in
    let order : s.given ≤ s.given + c.min.result = omega arith in
    subst (λ ts. IsOfTypes ts c.in_ok-page.page) (ap (λ (v : ValuesState). v.types) c.self.view_is)
    (page-of s.types.items s.rows c.self.invariant.givable.fit s.given (s.given + c.min.result) order
    c.deref-2.result.now c.deref-3.result.now c.in_ok-page.page c.deref-2.ensures.value all c.in_ok-page.ensures)
