use Rattle.std.proofs.Common.{[]}
use Rattle.aggregation.specs.Giving.{parts_with}
use Rattle.aggregation.proofs.OperatorLemmas.{got-gives}
use Rattle.aggregation.proofs.group_rows.GroupRows.give_parts.Goals as goal

pub returns-clause-gives : goal.returns-clause-gives
returns-clause-gives c =
    got-gives (λ table. parts_with table []) c.args.self.now c.begin_parts.new.self c.give.new.self c.in_ok-begin_parts.ensures.same c.in_ok-begin_parts.ensures.begun c.in_ok-give.ensures.same
    c.in_ok-give.field-0 c.in_ok-give.ensures.page
