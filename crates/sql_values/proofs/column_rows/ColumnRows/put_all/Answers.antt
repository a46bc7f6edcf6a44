use Rattle.std.proofs.Common.{◌≡◌, ◌∷◌, ◌++◌, ◌≤◌, ◌<◌, [], length, get_or, take, drop, refl, ap, sym, ◌∙◌, arith}
use Rattle.sql_values.specs.Cells.{lent_value}
use Rattle.sql_values.specs.ColumnRows.{TypedRows}
use Rattle.sql_values.proofs.ColumnRowsLemmas.{put-refused, put-taken, put-begun, put-whole}
use Rattle.sql_values.proofs.column_rows.ColumnRows.put_all.Goals as goal

pub returns-then-not-branch-clause-fits : goal.returns-then-not-branch-clause-fits
returns-then-not-branch-clause-fits c =
    put-refused c.args.self.now c.loop-value.self c.args.values.now c.loop-value.value-index _ c.loop-value.invariant.kept c.loop-value.invariant.begun (rw c.as_ref.ensures c.value-item.is) c.loop-value-test.true c.loop-value.invariant.fits (sym c.in_ok-put.ensures.fits ∙ c.if-not-branch.true)

pub loop-value-preserved : goal.loop-value-preserved
loop-value-preserved c =
    let put = rw c.if-not-branch.false at c.in_ok-put.ensures.ok in
    let begun : c.put.new.self.begun ≡ c.loop-value.self.begun ++ lent_value c.as_ref.result ∷ [] = ap {A = TypedRows} (λ t. t.begun) put in
    record {
      kept = ap {A = TypedRows} (λ t. record { types = t.types; rows = t.rows; begun = [] }) put ∙ c.loop-value.invariant.kept;
      begun = begun ∙ put-begun c.loop-value.self.begun c.args.values.now c.loop-value.value-index _ c.loop-value.invariant.begun (rw c.as_ref.ensures c.value-item.is) c.loop-value-test.true;
      fits = put-taken c.args.self.now c.loop-value.self c.args.values.now c.loop-value.value-index _ c.loop-value.invariant.kept c.loop-value.invariant.begun (rw c.as_ref.ensures c.value-item.is) c.loop-value-test.true c.loop-value.invariant.fits (sym c.in_ok-put.ensures.fits ∙ c.if-not-branch.false);
    }

pub returns-clause-fits : goal.returns-clause-fits
returns-clause-fits c = put-whole c.args.self.now.types c.args.values.now c.loop-value.value-index c.loop-value.invariant.fits (omega arith)
