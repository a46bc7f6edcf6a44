use Rattle.operator_tests.proofs.rows.made.Goals as goal

pub returns : goal.returns
returns c = λ page of. (c.new.ensures.takes page).1 of
