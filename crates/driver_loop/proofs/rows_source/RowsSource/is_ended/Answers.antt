use Rattle.std.proofs.Common.{drop}
use Rattle.std.proofs.lemmas.List.{take-append-drop}
use Rattle.driver_loop.proofs.RowsLemmas.{given_all}
use Rattle.driver_loop.proofs.rows_source.RowsSource.is_ended.Goals as goal

pub returns-clause-over : goal.returns-clause-over
returns-clause-over c = rw (← c.self.view_is) (λ over. given_all c.self.inside.op.given c.self.inside.op.rows (c.self.invariant over))

pub returns-clause-begun : goal.returns-clause-begun
returns-clause-begun c =
    rw (← c.self.view_is) (drop c.self.inside.op.given c.self.inside.op.rows, take-append-drop c.self.inside.op.given c.self.inside.op.rows)
