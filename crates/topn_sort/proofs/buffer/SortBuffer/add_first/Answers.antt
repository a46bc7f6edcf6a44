use Rattle.std.proofs.Common.{ap, sym, ◌∙◌}
use Rattle.sql_values.specs.ColumnRows.{TypedRows}
use Rattle.topn_sort.proofs.BufferLemmas.{joined-fit}
use Rattle.topn_sort.proofs.buffer.SortBuffer.add_first.Goals as goal

pub cut-requires-clause-fit : goal.cut-requires-clause-fit
cut-requires-clause-fit c =
    joined-fit c.in_ok-all.all c.in_ok-held.held c.args.rows c.in_ok-all.ensures c.in_ok-held.ensures.fit c.requires.fit
    (ap (λ (r : TypedRows). r.types) c.in_ok-held.ensures.rows ∙ sym c.requires.types)
