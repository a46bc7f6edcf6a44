use Rattle.pipe_laws.proofs.LaneFailLemmas.{lanes_failed}
use Rattle.pipe_laws.proofs.lanes.lanes_fail.Goals as goal

pub returns : goal.returns
returns g c = λ n w run notes all took gave ended done lanes stops node kind task driver in_tasks in_drivers i s within is fails.
    lanes_failed g.O.Operator c.laws.ensures c.args.tables.now n w took ended node kind task driver in_tasks in_drivers i s run notes all gave done lanes stops within is fails
