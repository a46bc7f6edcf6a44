use Rattle.row_ops.proofs.filter_project.FilterProjectOperator.get_output.Goals as goal

pub returns-in-Some-clause-fails : goal.returns-in-Some-clause-fails
returns-in-Some-clause-fails c = λ _ X node kind coming. rw c.take_held.ensures.same ((λ f. f), (λ f. f))
