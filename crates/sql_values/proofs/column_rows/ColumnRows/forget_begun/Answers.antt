use Rattle.std.proofs.Common.{◌≡◌, ◌≤◌, ◌<◌, [], length, get_or, take, drop, refl, ap, sym, ◌∙◌, arith}
use Rattle.std.proofs.lemmas.List.{take_all}
use Rattle.sql_values.proofs.ColumnRowsLemmas.{count-seen, seen-whole}
use Rattle.sql_values.proofs.column_rows.ColumnRows.forget_begun.Goals as goal

pub returns-then-self-gt0 : goal.returns-then-self-gt0
returns-then-self-gt0 c =
    let within : length c.args.self.now.rows ≤ c.truncate.inside.count = omega (arith, count-seen _ _ _ _ _ c.truncate.invariant c.truncate.view_is) in
    rw (take_all _ _ within) at c.truncate-then-self-gt0.ensures

pub returns-else-self-gt0 : goal.returns-else-self-gt0
returns-else-self-gt0 c = seen-whole _ _ _ _ _ c.self.invariant (omega arith) c.self.view_is
