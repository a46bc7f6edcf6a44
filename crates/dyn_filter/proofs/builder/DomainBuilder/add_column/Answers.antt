use Rattle.std.proofs.Common.{◌<◌, ◌≤◌, ◌++◌, length, map, take, subst, rules}
use Rattle.std.proofs.lemmas.List.{take_all}
use Rattle.sql_values.specs.Cells.{cell, lent_value}
use Rattle.dyn_filter.specs.Domains.{IsDomainOf}
use Rattle.dyn_filter.proofs.DomainLemmas.{one_row_more}
use Rattle.dyn_filter.proofs.builder.DomainBuilder.add_column.Goals as goal

pub loop-place-preserved : goal.loop-place-preserved
loop-place-preserved c = λ values is.
    let inside : c.loop-place.place < length c.args.page.now.rows = search rules in
    one_row_more values c.args.page.now.rows c.args.column c.loop-place.place (lent_value c.cell.result) _ inside c.cell.ensures
    (c.in_ok-add.ensures (values ++ map (λ row. cell row c.args.column) (take c.loop-place.place c.args.page.now.rows)) (c.loop-place.invariant values is))

pub returns : goal.returns
returns c = λ values is.
    let all : length c.args.page.now.rows ≤ c.loop-place.place = search rules in
    subst (λ rows. IsDomainOf (values ++ map (λ row. cell row c.args.column) rows) c.loop-place.self) (take_all c.loop-place.place c.args.page.now.rows all)
    (c.loop-place.invariant values is)
