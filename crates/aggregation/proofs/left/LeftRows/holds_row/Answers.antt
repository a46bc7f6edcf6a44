use Rattle.std.proofs.Common.{ap, ◌∙◌}
use Rattle.std.specs.Prelude.{nat_lt}
use Rattle.operator_core.specs.Samples.{has_row}
use Rattle.aggregation.specs.Giving.{RowsLeft}
use Rattle.aggregation.proofs.LeftLemmas.{some-left}
use Rattle.aggregation.proofs.left.LeftRows.holds_row.Goals as goal

pub returns : goal.returns
returns c =
    let s = c.self.inside in
    ap (nat_lt s.given) c.len.ensures ∙ some-left s.rows.rows s.given ∙ ap (λ (x : RowsLeft). has_row x.rows) c.self.view_is
