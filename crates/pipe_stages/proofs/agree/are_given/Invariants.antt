use Rattle.std.proofs.Common.{◌≡◌, true, map}
use Rattle.plan_layout.specs.Pipes.{PipeForm, pipe_view}
use Rattle.driver_net_laws.specs.Types.{gives_to}
use Rattle.pipe_stages.specs.Each.{EachBelow}
use Rattle.pipe_stages.specs.Tables.{types_in}
use Rattle.pipe_stages.proofs.agree.are_given.Given as goal

abbrev pub invariant-loop-from : goal.invariant-loop-from
invariant-loop-from l =
    EachBelow (λ from (pipe : PipeForm). gives_to l.at pipe.target ≡ true → (types_in l.table from).given ≡ (types_in l.table l.at).taken)
    (map pipe_view l.pipes) l.from
