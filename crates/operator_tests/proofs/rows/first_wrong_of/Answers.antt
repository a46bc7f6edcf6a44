use Rattle.std.proofs.Common.{rules}
use Rattle.operator_tests.proofs.rows.first_wrong_of.Goals as goal

pub first_wrong-requires : goal.first_wrong-requires
first_wrong-requires g c = (search rules, rw c.in-Some.is at c.in_ok-op.ensures)
