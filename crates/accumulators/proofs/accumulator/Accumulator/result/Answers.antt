use Rattle.std.proofs.Common.{ap, sym, subst, ◌∙◌, List}
use Rattle.std.specs.Prelude.{Result, Ok}
use Rattle.sql_values.specs.declared.value.Value.{Value}
use Rattle.sql_values.specs.declared.fail.Fail.{Fail}
use Rattle.accumulators.specs.Groups.{RowFailsBy}
use Rattle.accumulators.proofs.GroupLemmas.{view-told}
use Rattle.accumulators.proofs.accumulator.Accumulator.result.Goals as goal

pub returns-in-Ok : goal.returns-in-Ok
returns-in-Ok c =
    let s = c.self.inside in
    λ types e. view-told s.rows s.states.items s.states.items c.args.self.now c.self.view_is c.self.invariant types c.deref.result.now c.deref.ensures.value e
    ∙ c.in-Ok.ensures ∙ ap Ok (sym c.of.ensures)

pub returns-in-Err : goal.returns-in-Err
returns-in-Err c =
    let s = c.self.inside in
    λ types e. subst (λ (o : Result (List Value) Fail). RowFailsBy o c.in-Err.fault)
    (sym (view-told s.rows s.states.items s.states.items c.args.self.now c.self.view_is c.self.invariant types c.deref.result.now c.deref.ensures.value e))
    c.in-Err.ensures
