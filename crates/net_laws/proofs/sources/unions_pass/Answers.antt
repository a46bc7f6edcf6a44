use Rattle.std.proofs.Common.{subst, sym}
use Rattle.driver_loop.specs.declared.stage.Stage.{Stage}
use Rattle.driver_net_laws.specs.Pipes.{PipeState}
use Rattle.driver_net_laws.specs.States.{pipe_of, pipe_states_of}
use Rattle.net_laws.specs.Takes.{TakesSides}
use Rattle.net_laws.proofs.DriverLemmas.{all_known, pipe_at}
use Rattle.net_laws.proofs.UnionLemmas.{union_took}
use Rattle.net_laws.proofs.sources.unions_pass.Goals as goal

pub returns : goal.returns
returns c = λ net drivers flow are settled flowed at pipe is reads unread alone i j sides.
    let known = all_known net drivers flow are settled flowed in
    let stands = pipe_states_of net.layout drivers flow in
    subst (λ (p : PipeState Stage). TakesSides pipe.tasks p (stands i) (stands j)) (sym (pipe_at net.layout drivers flow at pipe is))
    (subst (λ (p : PipeState Stage). TakesSides pipe.tasks (pipe_of drivers flow at pipe) p (stands j)) (sym (pipe_at net.layout drivers flow i sides.left.pipe sides.left.is))
    (subst (λ (p : PipeState Stage). TakesSides pipe.tasks (pipe_of drivers flow at pipe) (pipe_of drivers flow i sides.left.pipe) p) (sym (pipe_at net.layout drivers flow j sides.right.pipe sides.right.is))
    (λ k in_tasks. union_took net drivers flow at pipe (known at pipe is) reads unread alone (settled.back at pipe is) k in_tasks i j sides
    (known i sides.left.pipe sides.left.is) (known j sides.right.pipe sides.right.is))))
