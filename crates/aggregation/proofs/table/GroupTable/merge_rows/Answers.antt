use Rattle.std.proofs.Common.{ap, arith}
use Rattle.aggregation.specs.Alike.{held_row}
use Rattle.aggregation.specs.Tables.{TableState}
use Rattle.aggregation.proofs.RowLemmas.{page-more}
use Rattle.aggregation.proofs.table.GroupTable.merge_rows.Goals as goal

pub loop-position-preserved : goal.loop-position-preserved
loop-position-preserved c =
    let make = λ (t : TableState). held_row t.columns in
    let more = page-more make c.args.self.now c.loop-position.self c.merge.new.self c.args.page.now.rows c.loop-position.position (omega (arith, c.loop-position-test.true, c.len-position-end.ensures.len))
    (ap make c.loop-position.invariant.same) c.loop-position.invariant.same c.loop-position.invariant.alike c.in_ok-merge.ensures.same c.in_ok-merge.ensures.ok in
    record { same = more.0; alike = more.1 }
