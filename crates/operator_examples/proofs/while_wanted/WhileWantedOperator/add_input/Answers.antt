use Rattle.operator_examples.specs.NoteLaws.{wanted-dropped, wanted-took}
use Rattle.operator_examples.proofs.while_wanted.WhileWantedOperator.add_input.Goals as goal

pub returns-in-Some-eq0-clause-gives : goal.returns-in-Some-eq0-clause-gives
returns-in-Some-eq0-clause-gives c = λ _ X B g.
    let s = c.args.self.now in wanted-dropped s.note.known s.held c.args.page.rows X B (cc) g

pub returns-clause-gives : goal.returns-clause-gives
returns-clause-gives c = λ _ X B g.
    let s = c.args.self.now in wanted-took s.note.known s.held _ c.args.page.rows X B c.in_ok-push.ensures.ok g
