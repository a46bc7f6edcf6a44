use Rattle.sql_values.specs.Cells.{lent_value}
use Rattle.dyn_filter.proofs.DomainLemmas.{range_with_list, range_with_range}
use Rattle.dyn_filter.proofs.domain.Domain.with_range.Goals as goal

pub returns-in-Values : goal.returns-in-Values
returns-in-Values c =
    range_with_list c.args.self c.in-Values.list c.args.least c.args.greatest (lent_value c.first.result) (lent_value c.last.result) c.spanning.result
    c.in-Values.is c.first.ensures c.last.ensures c.spanning.ensures

pub returns-in-Range : goal.returns-in-Range
returns-in-Range c =
    range_with_range c.args.self c.in-Range.first c.in-Range.last c.args.least c.args.greatest (lent_value c.as_ref.result) (lent_value c.as_ref-in-Range.result)
    c.spanning-in-Range.result c.in-Range.is c.as_ref.ensures c.as_ref-in-Range.ensures c.spanning-in-Range.ensures
