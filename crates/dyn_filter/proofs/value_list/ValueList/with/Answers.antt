use Rattle.std.proofs.Common.{◌≡◌, ap, sym, true, ◌∙◌}
use Rattle.sql_values.specs.Cells.{lent_value}
use Rattle.dyn_filter.specs.Lists.{is_in}
use Rattle.dyn_filter.proofs.DomainLemmas.{keeps_old}
use Rattle.dyn_filter.proofs.value_list.ValueList.with.Goals as goal

pub returns-in-Ok : goal.returns-in-Ok
returns-in-Ok c =
    let old : is_in c.args.self (lent_value c.args.value) ≡ true
    = ap (λ xs. is_in xs (lent_value c.args.value)) (sym (c.deref.ensures.value ∙ c.self.view_is)) ∙ c.in-Ok.ensures.found in
    keeps_old c.args.self (lent_value c.args.value) old
