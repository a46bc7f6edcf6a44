use Rattle.std.proofs.Common.{map, subst}
use Rattle.plan_layout.specs.Pipes.{pipe_view}
use Rattle.driver_net_laws.specs.Types.{PipesAreTyped}
use Rattle.pipe_stages.specs.Tables.{types_in}
use Rattle.pipe_stages.proofs.pipes.types_of_pipes.Goals as goal

pub returns : goal.returns
returns c = subst (λ table. PipesAreTyped (map pipe_view c.args.pipes.now) (types_in table)) c.as_slice.ensures.value c.in_ok-check_all.ensures
