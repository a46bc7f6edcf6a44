use Rattle.std.proofs.Common.{ap, sym}
use Rattle.row_ops.specs.ValueRows.{ValuesState}
use Rattle.driver_tests.proofs.parts.numbers.Goals as goal

pub new-requires : goal.new-requires
new-requires c = ap (λ (s : ValuesState). s.given) (sym c.new-op.ensures.fresh.made)
