use Rattle.net_laws.proofs.TypeLemmas.{at_pipe}
use Rattle.net_laws.proofs.StageLemmas.{are_made, halves_made}
use Rattle.net_laws.proofs.lanes.stages_are_made.Goals as goal

pub returns-clause-pipes : goal.returns-clause-pipes
returns-clause-pipes c = λ net typed n run own pipe is r task stages all.
    are_made net task typed n run own pipe.drivers pipe.source pipe.steps stages (at_pipe net.layout own pipe is) r all

pub returns-clause-halves : goal.returns-clause-halves
returns-clause-halves c = λ net typed n run half own pipe is r task stages all.
    halves_made net task typed n run half own pipe.drivers pipe.source pipe.steps stages (at_pipe net.layout own pipe is) r all
