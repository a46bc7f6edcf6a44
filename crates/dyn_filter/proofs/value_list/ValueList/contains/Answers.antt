use Rattle.std.proofs.Common.{ap, ◌∙◌}
use Rattle.sql_values.specs.Cells.{lent_value}
use Rattle.dyn_filter.specs.Lists.{is_in}
use Rattle.dyn_filter.proofs.ListLemmas.{found_in}
use Rattle.dyn_filter.proofs.value_list.ValueList.contains.Goals as goal

pub returns : goal.returns
returns c =
    c.is_ok.ensures.value ∙ found_in c.deref.result.now (lent_value c.args.value) c.search.result c.search.ensures.found c.search.ensures.absent
    ∙ ap (λ xs. is_in xs (lent_value c.args.value)) (c.deref.ensures.value ∙ c.self.view_is)
