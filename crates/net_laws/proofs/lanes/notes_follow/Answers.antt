use Rattle.net_laws.proofs.LaneLemmas.{follows, half_follows}
use Rattle.net_laws.proofs.lanes.notes_follow.Goals as goal

pub returns-clause-pipes : goal.returns-clause-pipes
returns-clause-pipes c = λ net drivers of settled flow flowed n run own pipe is tasks r. follows net drivers of settled flow flowed n own pipe is tasks run r

pub returns-clause-halves : goal.returns-clause-halves
returns-clause-halves c = λ net drivers of settled flow flowed n run half own pipe is tasks r. half_follows net drivers of settled flow flowed n own pipe is tasks run half r
