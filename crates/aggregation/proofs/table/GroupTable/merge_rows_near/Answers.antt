use Rattle.std.proofs.Common.{ap, arith, ◌∙◌}
use Rattle.aggregation.specs.Alike.{held_row}
use Rattle.aggregation.specs.Tables.{TableState}
use Rattle.aggregation.proofs.NearLemmas.{near-there}
use Rattle.aggregation.proofs.RowLemmas.{page-more}
use Rattle.aggregation.proofs.table.GroupTable.merge_rows_near.Goals as goal

pub loop-position-preserved : goal.loop-position-preserved
loop-position-preserved c =
    let make = λ (t : TableState). held_row t.columns in
    let more = page-more make c.args.self.now c.loop-position.self c.merge_near.new.self c.args.page.now.rows c.loop-position.position (omega (arith, c.loop-position-test.true, c.len-position-end.ensures.len))
    (ap make c.loop-position.invariant.same) c.loop-position.invariant.same c.loop-position.invariant.alike c.in_ok-merge_near.ensures.same c.in_ok-merge_near.ensures.ok in
    record {
      same = more.0;
      alike = more.1;
      kept = λ place key at. c.in_ok-merge_near.ensures.kept place key (c.loop-position.invariant.kept place key at);
    }

pub merge_near-requires : goal.merge_near-requires
merge_near-requires c =
    near-there c.args.self.now c.loop-position.self c.deref.result.now c.self.inside.index c.args.page.now.rows c.in_ok-found.found.items c.loop-position.position c.index.result.now
    (c.deref.ensures.value ∙ ap (λ (t : TableState). t.columns) c.self.view_is) (ap (λ (t : TableState). t.keys) c.self.view_is)
    c.in_ok-found.ensures (omega (arith, c.loop-position-test.true, c.len-position-end.ensures.len)) c.index.ensures c.loop-position.invariant.same c.loop-position.invariant.kept
