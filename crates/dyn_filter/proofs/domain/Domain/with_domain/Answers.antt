use Rattle.std.proofs.Common.{subst}
use Rattle.dyn_filter.specs.Domains.{IsDomainOf}
use Rattle.dyn_filter.proofs.DomainLemmas.{none_behind, with_list}
use Rattle.dyn_filter.proofs.domain.Domain.with_domain.Goals as goal

pub returns-in-Nothing : goal.returns-in-Nothing
returns-in-Nothing c = λ values others own other. none_behind c.args.self values others own (subst (IsDomainOf others) c.in-Nothing.is other)

pub returns-in-Values : goal.returns-in-Values
returns-in-Values c = with_list c.args.self c.args.other.now c.in-Values.list c.as_slice.result.now c.with_each.result c.in-Values.is c.as_slice.ensures c.with_each.ensures
