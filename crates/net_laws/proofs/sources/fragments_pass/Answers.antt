use Rattle.std.proofs.Common.{subst, sym}
use Rattle.driver_loop.specs.declared.stage.Stage.{Stage}
use Rattle.driver_net_laws.specs.Pipes.{PipeState}
use Rattle.plan_spreads.specs.Runs.{output_view}
use Rattle.driver_net_laws.specs.States.{pipe_of, pipe_states_of}
use Rattle.net_laws.specs.Takes.{TakesRoot}
use Rattle.net_laws.proofs.DriverLemmas.{all_known, pipe_at}
use Rattle.net_laws.proofs.FragmentLemmas.{fragment_took}
use Rattle.net_laws.proofs.sources.fragments_pass.Goals as goal

pub returns : goal.returns
returns c = λ net drivers flow are settled flowed at pipe is number reads unread output m j root by run.
    let known = all_known net drivers flow are settled flowed in
    let stands = pipe_states_of net.layout drivers flow in
    subst (λ (p : PipeState Stage). TakesRoot pipe.tasks p (output_view output) m run (stands j)) (sym (pipe_at net.layout drivers flow at pipe is))
    (subst (λ (p : PipeState Stage). TakesRoot pipe.tasks (pipe_of drivers flow at pipe) (output_view output) m run p)
    (sym (pipe_at net.layout drivers flow j root.root.pipe root.root.is))
    (λ task in_tasks. fragment_took net drivers flow at pipe is (known at pipe is) number reads unread (settled.back at pipe is) output m j root (known j root.root.pipe root.root.is)
    by (known by.fetched.place by.fetched.pipe by.fetched.is) (settled.back by.fetched.place by.fetched.pipe by.fetched.is) task in_tasks))
