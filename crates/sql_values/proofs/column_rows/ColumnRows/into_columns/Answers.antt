use Rattle.std.proofs.Common.{◌≡◌, ◌≤◌, ◌<◌, [], length, get_or, take, drop, refl, ap, sym, ◌∙◌, arith}
use Rattle.sql_values.proofs.ColumnRowsLemmas.{count-seen, none-begun}
use Rattle.sql_values.proofs.column_rows.ColumnRows.into_columns.Goals as goal

pub returns-clause-level : goal.returns-clause-level
returns-clause-level c =
    rw (count-seen _ _ _ _ _ c.self.invariant c.self.view_is) (none-begun _ _ _ _ c.self.invariant (ap (λ t. t.begun) c.self.view_is ∙ c.requires))

pub returns-clause-rows : goal.returns-clause-rows
returns-clause-rows c = rw (count-seen _ _ _ _ _ c.self.invariant c.self.view_is) (ap (λ t. t.rows) c.self.view_is)
