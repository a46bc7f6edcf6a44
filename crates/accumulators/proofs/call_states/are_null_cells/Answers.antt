use Rattle.std.proofs.Common.{◌+◌, sym, ◌∙◌, take, drop, arith}
use Rattle.std.specs.List.{list_all}
use Rattle.sql_values.specs.Cells.{lent_value}
use Rattle.sql_functions.specs.Truth.{is_null}
use Rattle.accumulators.proofs.CellLemmas.{null-more, null-stop}
use Rattle.accumulators.proofs.call_states.are_null_cells.Goals as goal

pub returns-then-not-is_null : goal.returns-then-not-is_null
returns-then-not-is_null g c =
    let row = g.C.Cells.values c.args.cells.now in
    null-stop row c.loop-place.place (c.args.first + c.args.width) (lent_value c.cell.result) (list_all is_null (take c.args.width (drop c.args.first row))) (omega (arith, c.loop-place-test.true)) c.cell.ensures
    (sym c.is_null.ensures ∙ c.if-not-is_null.true) c.loop-place.invariant

pub loop-place-preserved : goal.loop-place-preserved
loop-place-preserved g c =
    let row = g.C.Cells.values c.args.cells.now in
    null-more row c.loop-place.place (c.args.first + c.args.width) (lent_value c.cell.result) (list_all is_null (take c.args.width (drop c.args.first row))) (omega (arith, c.loop-place-test.true)) c.cell.ensures
    (sym c.is_null.ensures ∙ c.if-not-is_null.false) c.loop-place.invariant
