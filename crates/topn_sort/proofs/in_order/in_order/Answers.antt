use Rattle.std.proofs.Common.{◌≡◌, ◌<◌, ◌∙◌, [], length, subst, sym}
use Rattle.sql_values.specs.ColumnRows.{kinds_of}
use Rattle.sql_values.proofs.ColumnRowsLemmas.{places-each}
use Rattle.topn_sort.proofs.OrderedLemmas.{ordered-kinds, ordered-level, ordered-rows, ordered-some}
use Rattle.topn_sort.proofs.in_order.in_order.Goals as goal

pub columns_in_order-requires : goal.columns_in_order-requires
columns_in_order-requires c =
    places-each (length c.args.rows.rows) 0 c.into_columns.result.items c.args.order.now c.into_columns.ensures.level c.requires.within

pub of_columns-ordered-requires-clause-some : goal.of_columns-ordered-requires-clause-some
of_columns-ordered-requires-clause-some c =
    ordered-some c.args.rows.types c.into_columns.result.items c.in_ok-columns.columns.items c.args.rows.rows c.args.order.now c.types.ensures.some
    c.into_columns.ensures.kinds c.into_columns.ensures.level c.into_columns.ensures.rows c.requires.within c.in_ok-columns.ensures

pub of_columns-ordered-requires-clause-kinds : goal.of_columns-ordered-requires-clause-kinds
of_columns-ordered-requires-clause-kinds c =
    ordered-kinds c.args.rows.types c.into_columns.result.items c.in_ok-columns.columns.items c.args.rows.rows c.args.order.now c.types.ensures.some
    c.into_columns.ensures.kinds c.into_columns.ensures.level c.into_columns.ensures.rows c.requires.within c.in_ok-columns.ensures
    ∙ sym (c.in_ok-types.ensures.items ∙ c.types.ensures.types)

pub of_columns-ordered-requires-clause-level : goal.of_columns-ordered-requires-clause-level
of_columns-ordered-requires-clause-level c =
    ordered-level c.args.rows.types c.into_columns.result.items c.in_ok-columns.columns.items c.args.rows.rows c.args.order.now c.types.ensures.some
    c.into_columns.ensures.kinds c.into_columns.ensures.level c.into_columns.ensures.rows c.requires.within c.in_ok-columns.ensures

pub returns-clause-rows : goal.returns-clause-rows
returns-clause-rows c =
    let rows = ordered-rows c.args.rows.types c.into_columns.result.items c.in_ok-columns.columns.items c.args.rows.rows c.args.order.now c.types.ensures.some
    c.into_columns.ensures.kinds c.into_columns.ensures.level c.into_columns.ensures.rows c.requires.within c.in_ok-columns.ensures in
    let types : c.in_ok-types.types.items ≡ c.args.rows.types = c.in_ok-types.ensures.items ∙ c.types.ensures.types in
    c.of_columns-ordered.ensures ∙ (λ i. record { types = types i; rows = rows i; begun = [] })
