use Rattle.std.proofs.Common.{◌≡◌, ◌<◌, ◌≤◌, ◌++◌, get_or, length, take, subst, rules}
use Rattle.std.proofs.lemmas.List.{take_all}
use Rattle.sql_values.specs.Cells.{lent_value}
use Rattle.dyn_filter.specs.Domains.{IsDomainOf}
use Rattle.dyn_filter.proofs.DomainLemmas.{one_more}
use Rattle.dyn_filter.proofs.domain.Domain.with_each.Goals as goal

pub loop-value-preserved : goal.loop-value-preserved
loop-value-preserved c = λ values is.
    let inside : c.loop-value.value-index < length c.args.more.now = search rules in
    let at : lent_value c.as_ref.result ≡ get_or c.args.more.now c.loop-value.value-index (lent_value c.as_ref.result) = search rules in
    one_more values c.args.more.now c.loop-value.value-index (lent_value c.as_ref.result) _ inside at
    (c.in_ok-domain.ensures (values ++ take c.loop-value.value-index c.args.more.now) (c.loop-value.invariant values is))

pub returns : goal.returns
returns c = λ values is.
    let all : length c.args.more.now ≤ c.loop-value.value-index = search rules in
    subst (λ xs. IsDomainOf (values ++ xs) c.loop-value.domain) (take_all c.loop-value.value-index c.args.more.now all) (c.loop-value.invariant values is)
