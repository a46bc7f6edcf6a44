use Rattle.std.proofs.Common.{List, drop, map, subst}
use Rattle.std.proofs.lemmas.List.{at_drop_all}
use Rattle.sql_values.specs.declared.types.SqlType.{SqlType}
use Rattle.plan_layout.specs.Pipes.{step_view}
use Rattle.driver_net_laws.specs.Nets.{AreStagesFor}
use Rattle.pipe_stages.specs.Tables.{types_in}
use Rattle.pipe_stages.proofs.StepLemmas.{all_made}
use Rattle.pipe_stages.proofs.stages.stages_of.Goals as goal

pub returns-clause-are : goal.returns-clause-are
returns-clause-are c = λ net typed has.
    let table = c.args.table.now in
    let taken = (types_in table c.args.own).taken in
    let steps = c.args.steps.now in
    let none = at_drop_all (map step_view) steps c.loop-step.step-index c.loop-step-test.false in
    subst (λ (halved : List SqlType). AreStagesFor net c.args.task halved (map step_view steps) taken c.loop-step.stages.items) c.halved_at-halved.ensures
    (all_made table c.args.cells.now c.args.task c.halved_at-halved.result.now taken (map step_view steps) (map step_view (drop c.loop-step.step-index steps))
    c.loop-step.between c.loop-step.stages.items none c.loop-step.invariant net typed has)
