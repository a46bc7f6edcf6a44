use Rattle.std.proofs.Common.{rules}
use Rattle.std.proofs.lemmas.Fn.{always_returns_same}
use Rattle.sql_values.specs.Cells.{lent_value}
use Rattle.sql_values.specs.Order.{value_cmp}
use Rattle.dyn_filter.proofs.ListLemmas.{searched}
use Rattle.dyn_filter.proofs.value_list.search.Goals as goal

pub returns-clause-found : goal.returns-clause-found
returns-clause-found c =
    let facts = c.binary_search_by.ensures in
    let by = facts.position (λ w. value_cmp w (lent_value c.args.value)) (always_returns_same _ _ _ (λ a r f' called. search rules)) in
    (searched c.args.values.now (lent_value c.args.value) c.binary_search_by.result c.requires facts.bound by).0

pub returns-clause-absent : goal.returns-clause-absent
returns-clause-absent c =
    let facts = c.binary_search_by.ensures in
    let by = facts.position (λ w. value_cmp w (lent_value c.args.value)) (always_returns_same _ _ _ (λ a r f' called. search rules)) in
    (searched c.args.values.now (lent_value c.args.value) c.binary_search_by.result c.requires facts.bound by).1
