use Rattle.std.proofs.Common.{◌≡◌, ◌≤◌, ◌<◌, [], length, get_or, take, drop, refl, ap, sym, ◌∙◌, arith}
use Rattle.sql_values.proofs.ColumnRowsLemmas.{row-ends}
use Rattle.sql_values.specs.ColumnRows.{TypedRows}
use Rattle.sql_values.proofs.column_rows.ColumnRows.put_row.Goals as goal

pub returns-clause-fits : goal.returns-clause-fits
returns-clause-fits c =
    let types : c.put_all.new.self.types ≡ c.args.self.now.types = ap {A = TypedRows} (λ t. t.types) c.in_ok-put_all.ensures.kept in
    let begun : c.put_all.new.self.begun ≡ c.args.values.now = c.in_ok-put_all.ensures.all c.if-not-branch.false in
    row-ends c.args.self.now.types (length c.args.values.now) c.end_row.result (rw (types, begun) at c.end_row.ensures.full)
    ∙ sym (rw c.if-not-branch.false at c.in_ok-put_all.ensures.fits)
