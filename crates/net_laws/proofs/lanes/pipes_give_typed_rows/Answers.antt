use Rattle.net_laws.proofs.LaneLemmas.{halves_give, lanes_give}
use Rattle.net_laws.proofs.lanes.pipes_give_typed_rows.Goals as goal

pub returns-clause-pipes : goal.returns-clause-pipes
returns-clause-pipes c = λ net drivers of settled flow flowed n run own pipe is tasks r typed built.
    lanes_give net drivers of settled flow flowed n own pipe is tasks run r c.laws.ensures typed built

pub returns-clause-halves : goal.returns-clause-halves
returns-clause-halves c = λ net drivers of settled flow flowed n run half own pipe is tasks r typed built.
    halves_give net drivers of settled flow flowed n own pipe is tasks run half r c.laws.ensures typed built
