use Rattle.std.proofs.Common.{[]}
use Rattle.aggregation.specs.Giving.{verdicts_with}
use Rattle.aggregation.proofs.OperatorLemmas.{got-fails, got-gives}
use Rattle.aggregation.proofs.group_rows.GroupRows.give_results.Goals as goal

pub returns-in_ok-give-in-Ok-clause-gives : goal.returns-in_ok-give-in-Ok-clause-gives
returns-in_ok-give-in-Ok-clause-gives c = λ _.
    got-gives (λ table. verdicts_with table []) c.args.self.now c.begin_results.new.self c.give.new.self c.in-Ok.ensures.same c.in-Ok.ensures.begun c.in_ok-give-in-Ok.ensures.same
    c.in_ok-give-in-Ok.field-0 c.in_ok-give-in-Ok.ensures.page

pub returns-in_ok-give-in-Ok-clause-fails : goal.returns-in_ok-give-in-Ok-clause-fails
returns-in_ok-give-in-Ok-clause-fails c = λ _.
    got-fails (λ table. verdicts_with table []) c.args.self.now c.begin_results.new.self c.give.new.self c.in-Ok.ensures.same c.in-Ok.ensures.begun c.in_ok-give-in-Ok.ensures.same
    c.args.node
