use Rattle.std.proofs.Common.{arith}
use Rattle.row_ops.proofs.HeldLemmas.{holds-none}
use Rattle.row_ops.specs.RowsHeld.{rows_held}
use Rattle.row_ops.proofs.LimitLemmas.{limit-took}
use Rattle.row_ops.proofs.limit.LimitOpOperator.add_input.Goals as goal

pub returns-clause-gives : goal.returns-clause-gives
returns-clause-gives c = λ _ X B g.
    let s = c.args.self.now in
    limit-took s.left c.saturating_sub-self.result s.held c.in_ok-self.field-0 c.args.page X B
    (holds-none s.is_told (rows_held s.held) c.requires.needs) c.in_ok-self.ensures (omega arith) g
