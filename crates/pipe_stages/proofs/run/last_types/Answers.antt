use Rattle.std.proofs.Common.{[], ◌∷◌, ◌∙◌, ap, map, sym}
use Rattle.std.proofs.lemmas.List.{map-append}
use Rattle.plan_layout.specs.Pipes.{step_view}
use Rattle.driver_net_laws.specs.Types.{types_after, types_through}
use Rattle.pipe_stages.specs.Tables.{types_in}
use Rattle.pipe_stages.proofs.TypeLemmas.{through_last}
use Rattle.pipe_stages.proofs.run.last_types.Goals as goal

pub returns-clause-given : goal.returns-clause-given
returns-clause-given c =
    let types = types_in c.args.table.now in
    let halved = c.args.halved.now in
    let first = c.in-Some.first.now in
    let last = step_view c.in-Some.last.now in
    let steps = ap (map step_view) c.in-Some.ensures.cases.0 ∙ map-append step_view first (c.in-Some.last.now ∷ []) in
    c.in_ok-given.ensures ∙ ap (types_after types halved last) (c.as_slice.ensures ∙ c.in_ok-before.ensures)
    ∙ sym (through_last types halved (map step_view first) last c.args.taken.now)
    ∙ ap (λ ss. types_through types halved ss c.args.taken.now) (sym steps)
