use Rattle.sql_values.specs.Cells.{lent_value}
use Rattle.dyn_filter.proofs.DomainLemmas.{span_answer}
use Rattle.dyn_filter.proofs.domain.Domain.with_present.Goals as goal

pub returns-in-Range : goal.returns-in-Range
returns-in-Range c =
    span_answer c.args.self c.in-Range.least c.in-Range.greatest (lent_value c.args.value) c.spanning.result c.in-Range.is c.requires c.spanning.ensures
