use Rattle.std.proofs.Common.{subst, sym}
use Rattle.driver_loop.specs.declared.stage.Stage.{Stage}
use Rattle.driver_net_laws.specs.Pipes.{PipeState}
use Rattle.net_laws.specs.Takes.{TakesRows}
use Rattle.net_laws.proofs.DriverLemmas.{all_known, pipe_at}
use Rattle.net_laws.proofs.RowLemmas.{rows_took}
use Rattle.net_laws.proofs.sources.rows_pass.Goals as goal

pub returns : goal.returns
returns c = λ net drivers flow are settled flowed at pipe is kinds list reads unread alone.
    subst (λ (p : PipeState Stage). TakesRows pipe.tasks p list) (sym (pipe_at net.layout drivers flow at pipe is))
    (rows_took net drivers flow at pipe (all_known net drivers flow are settled flowed at pipe is) kinds list reads unread alone)
