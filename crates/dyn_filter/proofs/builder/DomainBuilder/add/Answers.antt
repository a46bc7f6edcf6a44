use Rattle.std.proofs.Common.{sym, subst, ◌∙◌}
use Rattle.dyn_filter.specs.Domains.{IsDomainOf}
use Rattle.dyn_filter.proofs.builder.DomainBuilder.add.Goals as goal

pub returns : goal.returns
returns c = λ values is.
    c.in_ok-self-inside.ensures values (subst (IsDomainOf values) (sym (c.replace-domain.ensures.value ∙ c.self.view_is)) is)
