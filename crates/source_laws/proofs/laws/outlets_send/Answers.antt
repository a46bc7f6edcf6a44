use Rattle.source_laws.proofs.SentLemmas.{keeps_putter, outlet_sent, sent-gather}
use Rattle.source_laws.proofs.laws.outlets_send.Goals as goal

pub returns-clause-sent : goal.returns-clause-sent
returns-clause-sent c = outlet_sent

pub returns-clause-putter : goal.returns-clause-putter
returns-clause-putter c = keeps_putter

pub returns-clause-tasks : goal.returns-clause-tasks
returns-clause-tasks c = sent-gather
