use Rattle.std.proofs.Common.{List, map, subst}
use Rattle.sql_values.specs.declared.types.SqlType.{SqlType}
use Rattle.plan_layout.specs.Pipes.{step_view}
use Rattle.pipe_stages.specs.Nets.{AreInFront}
use Rattle.net_parts.proofs.StageLemmas.{stages_stand}
use Rattle.net_parts.proofs.stages.stages_for.Goals as goal

pub returns-clause-are : goal.returns-clause-are
returns-clause-are c =
    let filters = c.args.filters.now in
    let front = c.in_ok-stages.stages.items in
    stages_stand c.args.making.now c.args.own c.args.task filters (map step_view c.args.steps.now) front c.in_ok-own_stages.own_stages.items
    c.append.new.self.items c.in_ok-append.ensures.items
    (λ net has. subst (λ (types : List SqlType). AreInFront net types filters front) c.taken_at-taken.ensures (c.in_ok-stages.ensures.are net has))
    c.in_ok-own_stages.ensures.are
