use Rattle.std.proofs.Common.{ap, arith, ◌∙◌}
use Rattle.aggregation.specs.Alike.{part_row}
use Rattle.aggregation.specs.Tables.{TableState}
use Rattle.aggregation.proofs.NearLemmas.{near-there}
use Rattle.aggregation.proofs.RowLemmas.{page-more}
use Rattle.aggregation.proofs.table.GroupTable.add_rows_near.Goals as goal

pub loop-position-preserved : goal.loop-position-preserved
loop-position-preserved c =
    let make = λ (t : TableState). part_row t.columns t.calls in
    let more = page-more make c.args.self.now c.loop-position.self c.add_near.new.self c.args.page.now.rows c.loop-position.position (omega (arith, c.loop-position-test.true, c.len-position-end.ensures.len))
    (ap make c.loop-position.invariant.same) c.loop-position.invariant.same c.loop-position.invariant.alike c.in_ok-add_near.ensures.same c.in_ok-add_near.ensures.ok in
    record {
      same = more.0;
      alike = more.1;
      kept = λ place key at. c.in_ok-add_near.ensures.kept place key (c.loop-position.invariant.kept place key at);
    }

pub add_near-requires : goal.add_near-requires
add_near-requires c =
    near-there c.args.self.now c.loop-position.self c.deref.result.now c.self.inside.index c.args.page.now.rows c.in_ok-found.found.items c.loop-position.position c.index.result.now
    (c.deref.ensures.value ∙ ap (λ (t : TableState). t.columns) c.self.view_is) (ap (λ (t : TableState). t.keys) c.self.view_is)
    c.in_ok-found.ensures (omega (arith, c.loop-position-test.true, c.len-position-end.ensures.len)) c.index.ensures c.loop-position.invariant.same c.loop-position.invariant.kept
