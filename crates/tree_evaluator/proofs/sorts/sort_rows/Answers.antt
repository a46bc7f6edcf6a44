use Rattle.std.proofs.Common.{◌≡◌, ◌∙◌, List, subst, sym}
use Rattle.sql_values.specs.declared.types.SqlType.{SqlType}
use Rattle.col_pages.specs.Fits.{AllFit}
use Rattle.tree_evaluator.proofs.SortLemmas.{sort_fits}
use Rattle.tree_evaluator.proofs.sorts.sort_rows.Goals as goal

pub constant_rows-requires-clause-fits : goal.constant_rows-requires-clause-fits
constant_rows-requires-clause-fits c =
    let same : c.as_slice.result.now ≡ c.args.rows.types = c.as_slice.ensures.value ∙ c.in_ok-types.ensures.items ∙ c.types.ensures in
    let fit = subst (AllFit c.args.rows.types) (sym c.in_ok-list.ensures) c.rows_fit_types.ensures in
    subst (λ (ts : List SqlType). AllFit ts c.in_ok-sorted.sorted) (sym same)
    (sort_fits c.args.rows.types c.args.keys.now c.in_ok-list.list c.in_ok-sorted.sorted c.in_ok-sorted.ensures fit)
