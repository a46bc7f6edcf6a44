use Rattle.pipe_laws.proofs.LaneFailLemmas.{halves_failed}
use Rattle.pipe_laws.proofs.lanes.halves_fail.Goals as goal

pub returns : goal.returns
returns g c = λ n w run notes half all took gave ended done never halves stops node kind task driver in_tasks in_drivers i s within is fails.
    halves_failed g.O.Operator c.laws.ensures c.args.tables.now n w took ended node kind task driver in_tasks in_drivers i s run notes half all gave done never halves stops within is fails
