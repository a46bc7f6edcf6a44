use Rattle.std.proofs.Common.{ap, ◌++◌, ◌∷◌, []}
use Rattle.sql_values.specs.Cells.{lent_value}
use Rattle.relation_laws.specs.Equality.{is_present}
use Rattle.dyn_filter.proofs.DomainLemmas.{of_same, with_null}
use Rattle.dyn_filter.proofs.domain.Domain.with.Goals as goal

pub returns-in-Null : goal.returns-in-Null
returns-in-Null c = λ values is.
    of_same c.args.self values (values ++ lent_value c.args.value ∷ [])
    (with_null values (lent_value c.args.value) (ap (λ r. is_present (lent_value r)) c.in-Null.is)) is
