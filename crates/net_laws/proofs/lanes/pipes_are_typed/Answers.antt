use Rattle.net_laws.proofs.TypeLemmas.{half_typed, runs_typed}
use Rattle.net_laws.proofs.lanes.pipes_are_typed.Goals as goal

pub returns-clause-pipes : goal.returns-clause-pipes
returns-clause-pipes c = λ layout types typed n run own pipe is r. runs_typed layout types typed n run own pipe is r

pub returns-clause-halves : goal.returns-clause-halves
returns-clause-halves c = λ layout types typed n run half own pipe is r. half_typed layout types typed n run half own pipe is r
