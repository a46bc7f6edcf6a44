use Rattle.std.proofs.Common.{map}
use Rattle.plan_layout.specs.Pipes.{pipe_view}
use Rattle.driver_net_laws.specs.Types.{PipeIsTyped}
use Rattle.pipe_stages.specs.Each.{EachBelow}
use Rattle.pipe_stages.specs.Tables.{types_in}
use Rattle.pipe_stages.proofs.pipes.check_all.Given as goal

abbrev pub invariant-loop-at : goal.invariant-loop-at
invariant-loop-at l = EachBelow (PipeIsTyped (map pipe_view l.pipes) (types_in l.table)) (map pipe_view l.pipes) l.at
