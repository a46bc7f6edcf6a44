use Rattle.std.proofs.Common.{ap, refl, Ok}
use Rattle.row_ops.specs.ValueRows.{ValuesState}
use Rattle.driver_loop.proofs.RowsLemmas.{left_next, some_next, none_next, none_left}
use Rattle.driver_loop.proofs.rows_source.RowsSource.next.Goals as goal

pub invariant_of-self-in-Ok-None : goal.invariant_of-self-in-Ok-None
invariant_of-self-in-Ok-None c = λ _. none_left c.self.inside.op c.get_output.new.self c.in-Ok-None.field-0 c.in-Ok-None.field-0-is
    (((c.in-Ok-None.ensures).none tt).0 (ap Ok c.in-Ok-None.field-0-is)).0
    (left_next c.self.inside.op c.get_output.new.self c.in-Ok-None.field-0 ((c.in-Ok-None.ensures).gives tt))

pub returns-in-Ok-Some-clause-page : goal.returns-in-Ok-Some-clause-page
returns-in-Ok-Some-clause-page c = rw (← c.self.view_is) (
  some_next c.self.inside.op c.get_output.new.self c.in-Ok-Some.field-0 c.in-Ok-Some.page c.in-Ok-Some.field-0-is
      (ap (λ (s : ValuesState). s.rows) c.get_output.ensures.as_made)
      (left_next c.self.inside.op c.get_output.new.self c.in-Ok-Some.field-0 ((c.in-Ok-Some.ensures).gives tt)),
  refl,
)

pub returns-in-Ok-None-clause-page : goal.returns-in-Ok-None-clause-page
returns-in-Ok-None-clause-page c = rw (← c.self.view_is) (
  none_next c.self.inside.op c.get_output.new.self c.in-Ok-None.field-0 c.in-Ok-None.field-0-is
      (ap (λ (s : ValuesState). s.rows) c.get_output.ensures.as_made)
      (left_next c.self.inside.op c.get_output.new.self c.in-Ok-None.field-0 ((c.in-Ok-None.ensures).gives tt)),
  refl,
)
