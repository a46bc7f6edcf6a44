use Rattle.std.proofs.Common.{ap, sym, ◌∙◌}
use Rattle.std.specs.Prelude.{nat_lt}
use Rattle.operator_core.specs.Samples.{has_row}
use Rattle.topn_sort.specs.Sorting.{BufferState}
use Rattle.topn_sort.proofs.BufferLemmas.{some-left}
use Rattle.topn_sort.proofs.buffer.SortBuffer.holds_row.Goals as goal

pub returns : goal.returns
returns c =
    let b = c.self.inside in
    ap (nat_lt b.given) c.len.ensures ∙ some-left b.rows.rows b.given ∙ ap (λ (v : BufferState). has_row v.rows) c.self.view_is
