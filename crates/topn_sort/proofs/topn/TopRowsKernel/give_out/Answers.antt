use Rattle.std.proofs.Common.{◌++◌, [], ap, subst}
use Rattle.std.specs.Prelude.{◌≡◌, ◌↔◌, None, Ok, Option, Result, not, true}
use Rattle.col_pages.specs.Pages.{TypedPage}
use Rattle.operator_core.specs.Answers.{gave}
use Rattle.operator_core.specs.Samples.{has_row}
use Rattle.operator_core.specs.declared.fault.OpFault.{OpFault}
use Rattle.topn_sort.specs.Sorting.{BufferState, TopGives, TopState, top_rows}
use Rattle.topn_sort.proofs.TopLemmas.{given-none, top-gave, top-held}
use Rattle.topn_sort.proofs.topn.TopRowsKernel.give_out.Goals as goal

pub returns-clause-gives : goal.returns-clause-gives
returns-clause-gives c = λ _ B g.
    let s = c.self.inside in
    subst (λ (t : TopState). TopGives t.buffer.begun t.buffer.keys t.count t.buffer.rows [] (gave (Ok c.in_ok-give.field-0) ++ B)) c.self.view_is
    (top-gave s.buffer c.give.new.self s.count c.in_ok-give.field-0 B c.self.invariant c.give.ensures.fewer (ap (λ (b : BufferState). b.keys) c.give.ensures.same) c.in_ok-give.ensures.page g)

pub returns-clause-none : goal.returns-clause-none
returns-clause-none c = λ _.
    let s = c.self.inside in
    subst (λ (t : TopState). (◌≡◌ {A = Result (Option TypedPage) OpFault} (Ok c.in_ok-give.field-0) (Ok None)) ↔ (not (has_row (top_rows t.buffer.begun t.count t.buffer.rows)) ≡ true)) c.self.view_is
    (given-none s.buffer c.give.new.self c.in_ok-give.field-0 (top_rows s.buffer.begun s.count s.buffer.rows)
    (top-held s.buffer.begun s.count s.buffer.rows c.self.invariant.within) c.in_ok-give.ensures.page)
