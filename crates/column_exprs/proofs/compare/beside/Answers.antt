use Rattle.std.proofs.Common.{◌∙◌, ap, map}
use Rattle.sql_values.specs.declared.value.Value.TheVariants.{Boolean}
use Rattle.sql_values.specs.Blocks.{TypedCells, or_null}
use Rattle.column_exprs.proofs.CompareLemmas.{beside_numbers}
use Rattle.column_exprs.proofs.compare.beside.Goals as goal

pub returns-clause-cells : goal.returns-clause-cells
returns-clause-cells c =
    ap (λ (b : TypedCells). b.cells) c.of_booleans.ensures ∙ ap (map (or_null Boolean)) c.in_ok-truths.ensures
    ∙ beside_numbers c.args.op c.in-Some.numbers.now c.in-Some-bigints_of.others.now c.args.first.now.cells c.args.second.now.cells c.in-Some.ensures c.in-Some-bigints_of.ensures
