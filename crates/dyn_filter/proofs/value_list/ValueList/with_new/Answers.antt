use Rattle.std.proofs.Common.{sym, subst, ◌∙◌}
use Rattle.std.specs.List.{insert}
use Rattle.sql_values.specs.Cells.{lent_value}
use Rattle.dyn_filter.specs.Lists.{IsGapFor}
use Rattle.dyn_filter.proofs.ListLemmas.{ascending-insert}
use Rattle.dyn_filter.proofs.DomainLemmas.{new_answer}
use Rattle.dyn_filter.proofs.value_list.ValueList.with_new.Goals as goal

pub domain_of-requires-clause-ascending : goal.domain_of-requires-clause-ascending
domain_of-requires-clause-ascending c =
    let gap = subst (λ xs. IsGapFor xs (lent_value c.args.value) c.args.place) (sym c.self.view_is) c.requires.gap in
    rw (c.in_ok-insert.ensures.items, c.in_ok-to_value.ensures)
    (ascending-insert c.self.inside.values.items (lent_value c.args.value) c.args.place c.self.invariant.ascending gap)

pub returns : goal.returns
returns c =
    new_answer c.args.self c.insert.new.self.items c.args.place (lent_value c.args.value) c.domain_of.result c.requires.present
    (c.in_ok-insert.ensures.items ∙ (λ i. insert (c.self.view_is i) c.args.place (c.in_ok-to_value.ensures i))) c.domain_of.ensures
