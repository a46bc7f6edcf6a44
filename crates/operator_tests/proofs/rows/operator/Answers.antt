use Rattle.operator_tests.proofs.rows.operator.Goals as goal

pub returns : goal.returns
returns c = rw c.in_ok-types.ensures at c.made.ensures
